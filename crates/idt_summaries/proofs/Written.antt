-- Lines that were written.
use Rattle.std.proofs.Common.{◌≡◌, ◌∙◌, ℕ, suc, ◌+◌, ◌<◌, ◌≤◌, arith, length, get_or, map, drop, drop-cons, Bool, true, false, List, [], ◌∷◌, ◌++◌, refl, sym, subst, ap}
use Rattle.std.specs.Prelude.{Option}
use Rattle.std.proofs.Math.ListN.{drop_of_length-le}
use Rattle.std.proofs.lemmas.List.{append_assoc, append-nil}
use Rattle.idt_tables.specs.Headings.{heading_lines}
use Rattle.idt_tables.specs.Lines.{text_of}
use Rattle.msi_props.specs.Props.{Property}
use Rattle.idt_summaries.specs.Writing.{AreLines, IsCell, IsSummaryFile, IsWritten, IsWrittenIf, heading, lines_with}

-- a cell of a property that stands in the table
pub written_if : (b : Bool) (n : ℕ) (v : Property) (cell : Option (List ℕ)) → b ≡ true → IsCell n v cell → IsWrittenIf b n v cell
written_if true n v cell e h = h
written_if false n v cell e h = absurd (cc)

pub unwritten : (b : Bool) (n : ℕ) (v : Property) (cell : Option (List ℕ)) → b ≡ true → IsWrittenIf b n v cell → IsCell n v cell
unwritten true n v cell e h = h
unwritten false n v cell e h = absurd (cc)

pub text_append : (xs ys : List (List ℕ)) → text_of (xs ++ ys) ≡ text_of xs ++ text_of ys
text_append [] ys = refl
text_append (x ∷ xs) ys = ap (λ t. (x ++ 13 ∷ 10 ∷ []) ++ t) (text_append xs ys) ∙ sym (append_assoc (x ++ 13 ∷ 10 ∷ []) (text_of xs) (text_of ys))

-- the lines of those that are left make the file of all, behind what stands there
abbrev pub Goes : List (ℕ × Property) → List (ℕ × Property) → List ℕ → Type 0
Goes all left done =
    (rest : List (List ℕ)) → AreLines left rest → (lines : List (List ℕ)) × AreLines all lines × (done ++ text_of rest ≡ text_of (heading_lines heading ++ lines))

pub begun : (all : List (ℕ × Property)) (done : List ℕ) → done ≡ text_of (heading_lines heading) → Goes all all done
begun all done e rest are = (rest, are, ap (λ x. x ++ text_of rest) e ∙ sym (text_append (heading_lines heading) rest))

pub next : (all left behind : List (ℕ × Property)) (p : ℕ × Property) (done new : List ℕ) → left ≡ p ∷ behind
    → (cell : Option (List ℕ)) × IsWritten p.0 p.1 cell × (new ≡ done ++ text_of (lines_with p.0 cell)) → Goes all left done → Goes all behind new
next all left behind p done new is told goes rest are =
    let more = goes (lines_with p.0 told.0 ++ rest) (subst (λ ps. AreLines ps (lines_with p.0 told.0 ++ rest)) (sym is) (told.0, rest, told.1, are, refl)) in (
      more.0,
      more.1,
      ap (λ x. x ++ text_of rest) told.2 ∙ append_assoc done (text_of (lines_with p.0 told.0)) (text_of rest) ∙ ap (λ x. done ++ x) (sym (text_append (lines_with p.0 told.0) rest)) ∙ more.2,
    )

pub ended : (all left : List (ℕ × Property)) (done : List ℕ) → left ≡ [] → Goes all left done → IsSummaryFile all done
ended all left done is goes =
    let more = goes [] (subst (λ ps. AreLines ps []) (sym is) refl) in
    (more.0, more.1, sym (append-nil done) ∙ more.2)

module _ {A B : Type 0} (see : A → B) (xs : List A) where
  -- those that are left begin with the next of a list
  pub next_of : (i : ℕ) (x : A) → i < length xs → x ≡ get_or xs i x → map see (drop i xs) ≡ see x ∷ map see (drop (i + 1) xs)
  next_of i x below is =
      let after : suc i ≡ i + 1 = omega arith in
      ap (map see) (drop-cons xs i x below ∙ ap (λ y. y ∷ drop (suc i) xs) (sym is) ∙ ap (λ n. x ∷ drop n xs) after)

  pub none_left : (i : ℕ) → length xs ≤ i → map see (drop i xs) ≡ []
  none_left i past = ap (map see) (drop_of_length-le xs past)
