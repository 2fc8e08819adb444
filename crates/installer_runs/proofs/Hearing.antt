-- What a listener hears.
use Rattle.std.proofs.Common.{◌≡◌, ◌∙◌, ◌++◌, List, [], ◌∷◌, ap, refl, subst, sym, append_assoc}
use Rattle.std.proofs.lemmas.List.{append-nil}
use Rattle.installer.specs.Reply.{Reply}
use Rattle.installer_runs.specs.Runs.{Heard, HearsSlices, joined}

joined_append : (xs ys : List (List Reply)) → joined (xs ++ ys) ≡ joined xs ++ joined ys
joined_append [] ys = refl
joined_append (x ∷ xs) ys = ap (λ (l : List Reply). x ++ l) (joined_append xs ys) ∙ sym (append_assoc x (joined xs) (joined ys))

module _ {L : Type 0} (hears : L → List Reply → L → Type 0) where
  hears_then : (xs ys : List (List Reply)) (a b c : L) → HearsSlices hears xs a b → HearsSlices hears ys b c → HearsSlices hears (xs ++ ys) a c
  hears_then [] ys a b c one two = subst (λ (l : L). HearsSlices hears ys l c) one two
  hears_then (x ∷ xs) ys a b c one two = (one.0, one.1, hears_then xs ys one.0 b c one.2 two)

  pub heard_none : (a : L) → Heard hears [] a a
  heard_none a = record { slices = []; all = refl; one_by_one = refl }

  pub heard_one : (replies : List Reply) (a b : L) → hears a replies b → Heard hears replies a b
  heard_one replies a b heard = record { slices = replies ∷ []; all = append-nil replies; one_by_one = (b, heard, refl) }

  pub heard_then : (first second : List Reply) (a b c : L) → Heard hears first a b → Heard hears second b c → Heard hears (first ++ second) a c
  heard_then first second a b c one two = record {
    slices = one.slices ++ two.slices;
    all = joined_append one.slices two.slices ∙ ap (λ (l : List Reply). l ++ joined two.slices) one.all ∙ ap (λ (l : List Reply). first ++ l) two.all;
    one_by_one = hears_then one.slices two.slices a b c one.one_by_one two.one_by_one;
  }

  -- nothing more
  pub heard_still : (replies : List Reply) (a b c : L) → Heard hears replies a b → Heard hears [] b c → Heard hears replies a c
  heard_still replies a b c one two = subst (λ (l : List Reply). Heard hears l a c) (append-nil replies) (heard_then replies [] a b c one two)
