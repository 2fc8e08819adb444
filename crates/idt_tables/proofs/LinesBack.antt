-- Lines that come back.
use Rattle.std.proofs.Common.{◌≡◌, ◌∙◌, ℕ, ◌<◌, Bool, true, false, not, List, [], ◌∷◌, ◌++◌, length, map, refl, sym, ap, ap₂, arith}
use Rattle.std.specs.Prelude.{◌==◌}
use Rattle.std.specs.List.{All, list_all, slice_split}
use Rattle.std.proofs.lemmas.Bool.{and_parts}
use Rattle.std.proofs.lemmas.List.{append_assoc}
use Rattle.std.proofs.lemmas.List.Elements.{All-append, All-cons, All-nil}
use Rattle.std.proofs.lemmas.List.Splits.{length-slice_split, slice_split_at}
use Rattle.idt_tables.specs.Lines.{is_line, lines_in, text_of, trimmed, without_end}

abbrev Free : ℕ → List ℕ → Type 0
Free c t = All (λ b. (b == c) ≡ false) t

no_of : (b : Bool) → not b ≡ true → b ≡ false
no_of true e = sym e
no_of false e = refl

pub free : (c : ℕ) (t : List ℕ) → list_all (λ b. not (b == c)) t ≡ true → Free c t
free c [] h = All-nil (λ b. (b == c) ≡ false)
free c (b ∷ t) h = All-cons (λ x. (x == c) ≡ false) b t (no_of (b == c) (and_parts _ _ h).0) (free c t (and_parts _ _ h).1)

pub trim_end : (t : List ℕ) → trimmed (t ++ 13 ∷ []) ≡ t
trim_end [] = refl
trim_end (b ∷ []) = refl
trim_end (b ∷ c ∷ t) = ap (λ x. b ∷ x) (trim_end (c ∷ t))

behind : (part : List ℕ) (parts : List (List ℕ)) → 0 < length parts → without_end (part ∷ parts) ≡ part ∷ without_end parts
behind part [] l = absurd (omega arith)
behind part (next ∷ parts) l = refl

pub lines_back : (lines : List (List ℕ)) → list_all is_line lines ≡ true → lines_in (text_of lines) ≡ lines
lines_back [] h = refl
lines_back (line ∷ lines) h =
    let front : Free 10 (line ++ 13 ∷ []) = All-append (λ b. (b == 10) ≡ false) line (13 ∷ []) (free 10 line (and_parts _ _ h).0) (All-cons (λ b. (b == 10) ≡ false) 13 [] refl (All-nil (λ b. (b == 10) ≡ false))) in
    let text : text_of (line ∷ lines) ≡ (line ++ 13 ∷ []) ++ 10 ∷ text_of lines = append_assoc line (13 ∷ 10 ∷ []) (text_of lines) ∙ sym (append_assoc line (13 ∷ []) (10 ∷ text_of lines)) in
    let cut : slice_split (λ b. b == 10) (text_of (line ∷ lines)) ≡ (line ++ 13 ∷ []) ∷ slice_split (λ b. b == 10) (text_of lines) = ap (slice_split (λ b. b == 10)) text ∙ slice_split_at (λ b. b == 10) (line ++ 13 ∷ []) 10 (text_of lines) front refl in
    ap (λ parts. map trimmed (without_end parts)) cut
    ∙ ap (map trimmed) (behind (line ++ 13 ∷ []) (slice_split (λ b. b == 10) (text_of lines)) (omega (arith, length-slice_split (λ b. b == 10) (text_of lines))))
    ∙ ap₂ (λ x xs. x ∷ xs) (trim_end line) (lines_back lines (and_parts _ _ h).1)
