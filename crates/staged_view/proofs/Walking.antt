-- How far the runs of a log were taken as pieces.
use Rattle.std.proofs.Common.{inl, inr, ◌⊎◌, ◌≡◌, ℕ, zero, suc, ◌+◌, ◌-◌, ◌*◌, ◌^◌, ◌<◌, ◌≤◌, Bool, true, false, ◌&&◌, nat_le, nat_lt, cond, List, [], ◌∷◌, ◌++◌, length, get_or, take, drop, Option, Some, None, is_some, refl, sym, ◌∙◌, ap, arith, subst, append-nil, length-append, length-drop}
use Rattle.std.specs.Prelude.{IsTrue}
use Rattle.std.specs.Option.{option_or}
use Rattle.std.proofs.lemmas.Bool.{cases_lt, cases_eq}
use Rattle.std.proofs.lemmas.List.{drop-drop, get_or_append_left, get_or-append_right}
use Rattle.staged.specs.Log.{numbered}
use Rattle.staged.specs.Pages.{page_at, HoldsPage, Rises}
use Rattle.staged.specs.declared.pages.Page.{Page}
use Rattle.staged.proofs.Found.{at_append, at_head, at_tail, place_of}
use Rattle.staged.proofs.Numbered.{page, numbered_holds}
use Rattle.staged.proofs.Walked.{held_right}
use Rattle.staged_view.specs.Pieces.{AreWithin, PiecesRise, has_number, page_in, page_of, piece_at}
use Rattle.staged_view.specs.declared.pieces.Piece.{Piece}
use Rattle.staged_view.proofs.Placed.{above_piece, below_piece, in_piece}

abbrev pub piece : ℕ → ℕ → ℕ → Piece
piece first end place = record { first = first; end = end; place = place }

either : (c : Bool) (found : List ℕ) (p q r : Option (List ℕ)) → q ≡ option_or p r → cond c (Some found) q ≡ option_or (cond c (Some found) p) r
either true found p q r is = refl
either false found p q r is = is

pub in_append : (a b : List Piece) (log : List ℕ) (number : ℕ) → page_in (a ++ b) log number ≡ option_or (page_in a log number) (page_in b log number)
in_append [] b log number = refl
in_append (p ∷ a) b log number = either (has_number p number) (page_of p log number) (page_in a log number) (page_in (a ++ b) log number) (page_in b log number) (in_append a b log number)

-- pages that stand one behind the other
pub numbered_at : (n first number : ℕ) (bytes : List ℕ) → first ≤ number → number < first + n → page_at (numbered first n bytes) number ≡ Some (take 512 (drop (512 * (number - first)) bytes))
numbered_at zero first number bytes from below = absurd (omega arith)
numbered_at (suc n) first number bytes from below = elim (cases_eq first number) [
  | inl same ↦
      let none : 0 ≡ 512 * (number - first) = omega arith in
      at_head (page first (take 512 bytes)) (numbered (first + 1) n (drop 512 bytes)) number same ∙ ap (λ (k : ℕ). Some (take 512 (drop k bytes))) none
  | inr other ↦
      let there : 512 * (number - (first + 1)) + 512 ≡ 512 * (number - first) = omega arith in
      at_tail (page first (take 512 bytes)) (numbered (first + 1) n (drop 512 bytes)) number other
      ∙ numbered_at n (first + 1) number (drop 512 bytes) (omega arith) (omega arith)
      ∙ ap (λ (l : List ℕ). Some (take 512 l)) (drop-drop (512 * (number - (first + 1))) 512 bytes ∙ ap (λ (k : ℕ). drop k bytes) (let e : 512 + 512 * (number - (first + 1)) ≡ 512 * (number - first) = omega arith in e))
]

pub numbered_none : (n first number : ℕ) (bytes : List ℕ) → (number < first) ⊎ (first + n ≤ number) → page_at (numbered first n bytes) number ≡ None
numbered_none zero first number bytes apart = refl
numbered_none (suc n) first number bytes apart = elim apart [
  | inl below ↦ at_tail (page first (take 512 bytes)) (numbered (first + 1) n (drop 512 bytes)) number (omega arith) ∙ numbered_none n (first + 1) number (drop 512 bytes) (inl (omega arith))
  | inr above ↦ at_tail (page first (take 512 bytes)) (numbered (first + 1) n (drop 512 bytes)) number (omega arith) ∙ numbered_none n (first + 1) number (drop 512 bytes) (inr (omega arith))
]

-- the pages of one run are those of its piece
pub run_pages : (first count place number : ℕ) (log : List ℕ) → page_at (numbered first count (drop place log)) number ≡ page_in (piece first (first + count) place ∷ []) log number
run_pages first count place number log = elim (cases_lt number first) [
  | inl below ↦ numbered_none count first number (drop place log) (inl below) ∙ sym (unfound (below_piece (piece first (first + count) place) number below))
  | inr from ↦ elim (cases_lt number (first + count)) [
    | inl within ↦
        numbered_at count first number (drop place log) from within
        ∙ ap (λ (l : List ℕ). Some (take 512 l)) (drop-drop (512 * (number - first)) place log)
        ∙ sym (ap (λ (b : Bool). cond b (Some (page_of (piece first (first + count) place) log number)) None) (in_piece (piece first (first + count) place) number from within))
    | inr above ↦ numbered_none count first number (drop place log) (inr above) ∙ sym (unfound (above_piece (piece first (first + count) place) number above))
  ]
]
  where
    unfound : has_number (piece first (first + count) place) number ≡ false → page_in (piece first (first + count) place ∷ []) log number ≡ None
    unfound is = ap (λ (b : Bool). cond b (Some (page_of (piece first (first + count) place) log number)) None) is

-- one run more
pub found_more : (seen : List Page) (pieces : List Piece) (log : List ℕ) (first count place : ℕ) → ((number : ℕ) → page_at seen number ≡ page_in pieces log number)
    → (number : ℕ) → page_at (seen ++ numbered first count (drop place log)) number ≡ page_in (pieces ++ piece first (first + count) place ∷ []) log number
found_more seen pieces log first count place so_far number =
    at_append seen (numbered first count (drop place log)) number
    ∙ ap (λ (o : Option (List ℕ)). option_or o (page_at (numbered first count (drop place log)) number)) (so_far number)
    ∙ ap (λ (o : Option (List ℕ)). option_or (page_in pieces log number) o) (run_pages first count place number log)
    ∙ sym (in_append pieces (piece first (first + count) place ∷ []) log number)

-- each of them ends at or below this number
abbrev pub EndBy : List Piece → ℕ → Type 0
EndBy pieces least = (k : ℕ) → k < length pieces → (piece_at pieces k).end ≤ least

old_piece : (pieces : List Piece) (new : Piece) (k : ℕ) → k < length pieces → piece_at (pieces ++ new ∷ []) k ≡ piece_at pieces k
old_piece pieces new k within = get_or_append_left pieces (new ∷ []) (piece 0 0 0) k within

new_piece : (pieces : List Piece) (new : Piece) (k : ℕ) → length pieces ≤ k → k < length (pieces ++ new ∷ []) → piece_at (pieces ++ new ∷ []) k ≡ new
new_piece pieces new k past within =
    let none : k - length pieces ≡ 0 = omega (arith, length-append pieces (new ∷ [])) in
    get_or-append_right pieces (new ∷ []) (length pieces) k (piece 0 0 0) refl past ∙ ap (λ (i : ℕ). get_or (new ∷ []) i (piece 0 0 0)) none

-- what holds of each, and of one more
each_more : (P : Piece → Type 0) (pieces : List Piece) (new : Piece) → ((k : ℕ) → k < length pieces → P (piece_at pieces k)) → P new → (k : ℕ) → k < length (pieces ++ new ∷ []) → P (piece_at (pieces ++ new ∷ []) k)
each_more P pieces new each one k within = elim (cases_lt k (length pieces)) [
  | inl old ↦ subst P (sym (old_piece pieces new k old)) (each k old)
  | inr past ↦ subst P (sym (new_piece pieces new k past within)) one
]

pub ends_more : (pieces : List Piece) (new : Piece) (least : ℕ) → EndBy pieces least → least ≤ new.end → EndBy (pieces ++ new ∷ []) new.end
ends_more pieces new least ends up = each_more (λ (p : Piece). p.end ≤ new.end) pieces new (λ k within. let e = ends k within in omega arith) (omega arith)

pub rise_more : (pieces : List Piece) (new : Piece) (least : ℕ) → PiecesRise pieces → EndBy pieces least → least ≤ new.first → new.first < new.end → PiecesRise (pieces ++ new ∷ [])
rise_more pieces new least rise ends up some = record {
  some = each_more (λ (p : Piece). p.first < p.end) pieces new rise.some some;
  rising = λ i j less within.
      let first : i < length pieces = omega (arith, length-append pieces (new ∷ [])) in
      let was : piece_at (pieces ++ new ∷ []) i ≡ piece_at pieces i = old_piece pieces new i first in
      elim (cases_lt j (length pieces)) [
        | inl old ↦ subst (λ (p : Piece). (piece_at (pieces ++ new ∷ []) i).end ≤ p.first) (sym (old_piece pieces new j old)) (subst (λ (p : Piece). p.end ≤ (piece_at pieces j).first) (sym was) (rise.rising i j less old))
        | inr past ↦ subst (λ (p : Piece). (piece_at (pieces ++ new ∷ []) i).end ≤ p.first) (sym (new_piece pieces new j past within)) (subst (λ (p : Piece). p.end ≤ new.first) (sym was) (let e = ends i first in omega arith))
      ];
}

pub within_more : (pieces : List Piece) (new : Piece) → AreWithin pieces → 512 * new.first < 2 ^ 64 → new.place + 512 * (new.end - new.first) < 2 ^ 64 → AreWithin (pieces ++ new ∷ [])
within_more pieces new are begin room = record {
  begin = each_more (λ (p : Piece). 512 * p.first < 2 ^ 64) pieces new are.begin begin;
  room = each_more (λ (p : Piece). p.place + 512 * (p.end - p.first) < 2 ^ 64) pieces new are.room room;
}

abbrev pub AreWhole : List ℕ → List Piece → Type 0
AreWhole log pieces = (k : ℕ) → k < length pieces → (piece_at pieces k).place + 512 * ((piece_at pieces k).end - (piece_at pieces k).first) ≤ length log

pub whole_more : (log : List ℕ) (pieces : List Piece) (new : Piece) → AreWhole log pieces → new.place + 512 * (new.end - new.first) ≤ length log → AreWhole log (pieces ++ new ∷ [])
whole_more log pieces new each one = each_more (λ (p : Piece). p.place + 512 * (p.end - p.first) ≤ length log) pieces new each one

-- the page below this number is among those seen, if there is one
abbrev pub SeenTo : List Page → ℕ → Type 0
SeenTo seen least = 0 < least → HoldsPage seen (least - 1)

pub seen_more : (seen : List Page) (first count : ℕ) (bytes : List ℕ) → 0 < count → SeenTo (seen ++ numbered first count bytes) (first + count)
seen_more seen first count bytes some _ = held_right seen (numbered first count bytes) (first + count - 1) (numbered_holds count first (first + count - 1) bytes (omega arith) (omega arith))

-- a run behind them isn't lower
pub not_low : (seen rest : List Page) (first count least : ℕ) (bytes : List ℕ) → SeenTo seen least → 0 < count → first < least → Rises (seen ++ (numbered first count bytes ++ rest)) → ⊥
not_low seen rest first zero least bytes to some low rises = absurd (omega arith)
not_low seen rest first (suc n) least bytes to some low rises =
    let next = page first (take 512 bytes) in
    let more = numbered (first + 1) n (drop 512 bytes) ++ rest in
    let all = seen ++ next ∷ more in
    let spot = place_of seen (least - 1) next (to (omega arith)) in
    let within : spot.0 < length seen = spot.1 in
    let before : (get_or all spot.0 next).number ≡ least - 1 = ap (λ (p : Page). p.number) (get_or_append_left seen (next ∷ more) next spot.0 within) ∙ spot.2 in
    let none : length seen - length seen ≡ 0 = omega arith in
    let here : (get_or all (length seen) next).number ≡ first = ap (λ (p : Page). p.number) (get_or-append_right seen (next ∷ more) (length seen) (length seen) next refl (omega arith) ∙ ap (λ (i : ℕ). get_or (next ∷ more) i next) none) in
    let up : (get_or all spot.0 next).number < (get_or all (length seen) next).number = rises.rising spot.0 (length seen) next within (omega (arith, length-append seen (next ∷ more))) in
    omega arith
