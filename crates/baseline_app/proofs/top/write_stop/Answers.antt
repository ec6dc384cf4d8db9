use Rattle.baseline_app.proofs.top.write_stop.Goals as goal

pub returns-in-NoMemory : goal.returns-in-NoMemory
returns-in-NoMemory g c = rw c.in-NoMemory.is c.deliver-in-NoMemory.ensures
