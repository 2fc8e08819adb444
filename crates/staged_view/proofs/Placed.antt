-- Which piece has a page.
use Rattle.std.proofs.Common.{inl, inr, ⊎_elim, ◌⊎◌, ◌≡◌, ℕ, zero, suc, ◌+◌, ◌-◌, ◌*◌, ◌<◌, ◌≤◌, Bool, true, false, ◌&&◌, nat_le, nat_lt, cond, List, [], ◌∷◌, length, get_or, Option, Some, None, refl, sym, ◌∙◌, ap, arith, subst}
use Rattle.std.proofs.lemmas.Bool.{cases_lt, and_parts, ltb-true, leb-true, lt-ltb, le-leb, le-ltb}
use Rattle.std.proofs.lemmas.Bool.Decides.{nat_tests}
use Rattle.std.proofs.lemmas.List.{get_or_default}
use Rattle.std.specs.List.Sorted.{IsNonDecreasingBy}
use Rattle.staged_view.specs.Pieces.{PiecesRise, has_number, page_in, page_of, piece_at}
use Rattle.staged_view.specs.declared.pieces.Piece.{Piece}

pub below_piece : (piece : Piece) (number : ℕ) → number < piece.first → has_number piece number ≡ false
below_piece piece number below = first (nat_le piece.first number) refl
  where
    first : (b : Bool) → nat_le piece.first number ≡ b → has_number piece number ≡ false
    first false is = ap (λ (c : Bool). c && nat_lt number piece.end) is
    first true is = absurd (let e : piece.first ≤ number = leb-true piece.first number is in omega arith)

pub above_piece : (piece : Piece) (number : ℕ) → piece.end ≤ number → has_number piece number ≡ false
above_piece piece number above = other (nat_le piece.first number)
  where
    other : (b : Bool) → (b && nat_lt number piece.end) ≡ false
    other false = refl
    other true = le-ltb number piece.end above

pub in_piece : (piece : Piece) (number : ℕ) → piece.first ≤ number → number < piece.end → has_number piece number ≡ true
in_piece piece number from below = ap (λ (c : Bool). c && nat_lt number piece.end) (le-leb piece.first number from) ∙ lt-ltb number piece.end below

pub has_bounds : (piece : Piece) (number : ℕ) → has_number piece number ≡ true → (piece.first ≤ number) × (number < piece.end)
has_bounds piece number has =
    let both = and_parts (nat_le piece.first number) (nat_lt number piece.end) has in
    (leb-true piece.first number both.0, ltb-true number piece.end both.1)

pub in_none : (pieces : List Piece) (log : List ℕ) (number : ℕ) → ((k : ℕ) → k < length pieces → has_number (piece_at pieces k) number ≡ false) → page_in pieces log number ≡ None
in_none [] log number none = refl
in_none (piece ∷ pieces) log number none =
    ap (λ (b : Bool). cond b (Some (page_of piece log number)) (page_in pieces log number)) (none zero (omega arith))
    ∙ in_none pieces log number (λ k below. none (suc k) (omega arith))

pub in_place : (pieces : List Piece) (log : List ℕ) (i number : ℕ) → i < length pieces → has_number (piece_at pieces i) number ≡ true → ((k : ℕ) → k < i → has_number (piece_at pieces k) number ≡ false) → page_in pieces log number ≡ Some (page_of (piece_at pieces i) log number)
in_place [] log i number within has before = absurd (omega arith)
in_place (piece ∷ pieces) log zero number within has before = ap (λ (b : Bool). cond b (Some (page_of piece log number)) (page_in pieces log number)) has
in_place (piece ∷ pieces) log (suc i) number within has before =
    ap (λ (b : Bool). cond b (Some (page_of piece log number)) (page_in pieces log number)) (before zero (omega arith))
    ∙ in_place pieces log i number (omega arith) has (λ k below. before (suc k) (omega arith))

-- their ends rise
pub ends_rise : (pieces : List Piece) → PiecesRise pieces → IsNonDecreasingBy (λ (p : Piece). p.end) pieces
ends_rise pieces rise i j d from within =
    let one : (get_or pieces i d).end ≡ (piece_at pieces i).end = ap (λ (p : Piece). p.end) (get_or_default pieces i d (record { first = 0; end = 0; place = 0 }) (omega arith)) in
    let two : (get_or pieces j d).end ≡ (piece_at pieces j).end = ap (λ (p : Piece). p.end) (get_or_default pieces j d (record { first = 0; end = 0; place = 0 }) within) in
    elim (cases_lt i j) [
      | inl less ↦
          let a : (piece_at pieces i).end ≤ (piece_at pieces j).first = rise.rising i j less within in
          let b : (piece_at pieces j).first < (piece_at pieces j).end = rise.some j within in
          omega arith
      | inr other ↦ let same : i ≡ j = omega arith in subst (λ (k : ℕ). (get_or pieces i d).end ≤ (get_or pieces k d).end) same (omega arith)
    ]

-- below the first page of a piece, and above those before it, there is none
pub in_gap : (pieces : List Piece) (log : List ℕ) (i number : ℕ) → PiecesRise pieces → ((k : ℕ) → k < i → k < length pieces → (piece_at pieces k).end ≤ number) → (i < length pieces → number < (piece_at pieces i).first) → page_in pieces log number ≡ None
in_gap pieces log i number rise before after = in_none pieces log number (λ k within. elim (cases_lt k i) [
  | inl less ↦ above_piece (piece_at pieces k) number (before k less within)
  | inr other ↦ elim (cases_lt i k) [
    | inl past ↦
        let a : (piece_at pieces i).end ≤ (piece_at pieces k).first = rise.rising i k past within in
        let b : (piece_at pieces i).first < (piece_at pieces i).end = rise.some i (omega arith) in
        let c : number < (piece_at pieces i).first = after (omega arith) in
        below_piece (piece_at pieces k) number (omega arith)
    | inr here ↦ let same : i ≡ k = omega arith in subst (λ (m : ℕ). has_number (piece_at pieces m) number ≡ false) same (below_piece (piece_at pieces i) number (after (omega arith)))
  ]
])

-- where a piece has the page, it is found there
pub in_this : (pieces : List Piece) (log : List ℕ) (i number : ℕ) → PiecesRise pieces → i < length pieces → has_number (piece_at pieces i) number ≡ true → page_in pieces log number ≡ Some (page_of (piece_at pieces i) log number)
in_this pieces log i number rise within has =
    let bounds = has_bounds (piece_at pieces i) number has in
    in_place pieces log i number within has (λ k less. let a : (piece_at pieces k).end ≤ (piece_at pieces i).first = rise.rising k i less within in above_piece (piece_at pieces k) number (omega (arith, bounds.0)))
