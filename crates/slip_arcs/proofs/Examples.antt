-- The definition of a cut at worked numbers, by computation.
use Rattle.std.proofs.Common.{◌≡◌, true, false, pos, negsuc, [], ◌∷◌, refl, ℤ}
use Rattle.obs_rows.specs.declared.used.UsedSat.{UsedSat}
use Rattle.obs_rows.specs.BandSets.{bands_of}
use Rattle.slip_arcs.specs.Used.{is_cut, jump_of}

abbrev at_phases : ℤ → ℤ → ℤ → UsedSat
at_phases l1 l2 l5 = record { sat = 7; phase = l1 ∷ l2 ∷ l5 ∷ []; lost = false }

abbrev still : UsedSat
still = at_phases (pos 0) (pos 0) (pos 0)

-- 391000 is over 276000
same_rise : is_cut (bands_of 12) 12 false still (at_phases (pos 1000) (pos 1000) (pos 0)) ≡ true
same_rise = refl

same_rise_size : jump_of 0 1 still (at_phases (pos 1000) (pos 1000) (pos 0)) ≡ 391000
same_rise_size = refl

-- 23000 is not
nine_and_seven : is_cut (bands_of 12) 12 false still (at_phases (pos 9000) (pos 7000) (pos 0)) ≡ false
nine_and_seven = refl

-- 24000 of L5 isn't, and 3335000 of L2 is; L5 isn't looked at in a run on L1 and L2, nor is L2 in one on L1 and L5
on_l5 : is_cut (bands_of 15) 12 false still (at_phases (pos 4000) (pos 5000) (pos 3000)) ≡ false
on_l5 = refl

on_l2 : is_cut (bands_of 12) 12 false still (at_phases (pos 4000) (pos 5000) (pos 3000)) ≡ true
on_l2 = refl

-- on all three bands L2 moves 274505 from L1 and L5 275352 the other way: they are held against L1 alone
apart : is_cut (bands_of 125) 12 false still (at_phases (pos 0) (pos 155) (negsuc 148)) ≡ false
apart = refl
