-- A letter table may be used where it touches no encoded name.
use Rattle.std.proofs.Common.{◌≡◌, ◌∙◌, Bool, true, false, [], ◌∷◌, refl, sym}
use Rattle.std.specs.Prelude.{◌&&◌, ◌||◌, not}
use Rattle.cfb_tree.specs.Names.{CaseTable, touches}
use Rattle.msi_spec.specs.Opening.{is_encoded, keeps_encoded_names}

step : (a b r s : Bool) → r ≡ not s → (a || b) || r ≡ not ((not a && not b) && s)
step true b r s e = refl
step false true r s e = refl
step false false r s e = e

pub touches_is : (letters : CaseTable) → touches letters 0x3800 0x4840 ≡ not (keeps_encoded_names letters)
touches_is [] = refl
touches_is (pair ∷ pairs) = step (is_encoded pair.0) (is_encoded pair.1) (touches pairs 0x3800 0x4840) (keeps_encoded_names pairs) (touches_is pairs)

pub may_be_used : (letters : CaseTable) → touches letters 0x3800 0x4840 ≡ false → keeps_encoded_names letters ≡ true
may_be_used letters e = by (keeps_encoded_names letters) (sym (touches_is letters) ∙ e)
  where
    by : (b : Bool) → not b ≡ false → b ≡ true
    by true h = refl
    by false h = absurd (cc)

pub may_not_be_used : (letters : CaseTable) → touches letters 0x3800 0x4840 ≡ true → keeps_encoded_names letters ≡ false
may_not_be_used letters e = by (keeps_encoded_names letters) (sym (touches_is letters) ∙ e)
  where
    by : (b : Bool) → not b ≡ true → b ≡ false
    by true h = absurd (cc)
    by false h = refl
