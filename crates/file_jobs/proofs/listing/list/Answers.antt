use Rattle.std.proofs.lemmas.Result.{err_from_is_err_and}
use Rattle.job_answers.specs.Works.{file_work}
use Rattle.rinex_head.specs.declared.system.System.TheVariants.{Gps}
use Rattle.job_answers.proofs.KnownLaws.{known_from, whole_known}
use Rattle.job_answers.proofs.WorkLaws.{text_done}
use Rattle.job_answers.specs.Endings.{IsTextOf}
use Rattle.job_answers.specs.SessionFiles.{IsObsOf}
use Rattle.file_jobs.specs.Listing.{list_job}
use Rattle.file_jobs.proofs.ListEndings.{listed, list_stop}
use Rattle.file_jobs.proofs.listing.list.Goals as goal

pub returns-in_err-file : goal.returns-in_err-file
returns-in_err-file g c =
    let answered = err_from_is_err_and c.from_residual.result c.from_residual.ensures.1 in
    let files = c.args.files.now in
    let files_after = c.obs_file.new.files in
    let work = file_work g.F.Files files files_after in
    let stopped = c.in_err-file.ensures in
    let from = known_from (g.F.Files.text_of files) (g.F.Files.given files) (g.F.Files.given files_after) in
    rw (answered.1, answered.2) (list_stop work c.args.name.now c.in_err-file.field-0.0 stopped.uses.opened stopped.uses.gives (stopped.stopped work.text_of from) stopped.refused stopped.fault stopped.sure)

pub returns : goal.returns
returns g c =
    let files = c.args.files.now in
    let files_after = c.obs_file.new.files in
    let work = file_work g.F.Files files files_after in
    let read = c.in_ok-file.ensures in
    let from = known_from (g.F.Files.text_of files) (g.F.Files.given files) (g.F.Files.given files_after) in
    let is : IsTextOf work.text_of c.args.name.now read.read.text = record {
      told_is = whole_known work.text_of (g.F.Files.text_of files) (g.F.Files.given files) (g.F.Files.given files_after) c.args.name.now read.read.text from read.read.is.told_is read.read.given;
      fits = read.read.is.fits;
    } in
    let known : IsObsOf Gps work.text_of c.args.name.now c.in_ok-file.file = record { text = read.read.text; is = is; is_file = read.read.is_file } in
    text_done work c.args.name.now read.read.text list_job _ is read.reads.whole read.reads.opens read.read.given
    (listed read.read.text c.args.name.now c.in_ok-file.file work.text_of _ known c.in_ok-answer_file.ensures)
