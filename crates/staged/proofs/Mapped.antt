-- The pages of a map, as a list.
use Rattle.std.proofs.Common.{inl, inr, ◌≡◌, ◌≢◌, ℕ, zero, suc, ◌+◌, ◌<◌, ◌≤◌, Bool, true, false, cond, List, [], ◌∷◌, length, map, drop, get_or, Option, Some, None, is_some, Ordering, Less, Equal, Greater, refl, sym, ◌∙◌, ap, add-one, arith, subst, length-drop}
use Rattle.std.specs.Prelude.{IsTrue}
use Rattle.std.specs.Option.{option_or}
use Rattle.std.specs.Ordering.{nat_cmp, is_eq, MatchOrdering}
use Rattle.std.specs.Global.{Box}
use Rattle.std.specs.Map.{lookup, keys_of}
use Rattle.std.specs.List.Sorted.{IsStrictlySortedBy}
use Rattle.std.specs.BTreeMap.{BTreeMap, IsOrdered, is_at}
use Rattle.std.proofs.lemmas.Bool.{cases_eq, cases_lt}
use Rattle.std.proofs.lemmas.Cmp.{ranked}
use Rattle.std.proofs.lemmas.List.{length-map, get_or-map}
use Rattle.std.proofs.lemmas.Map.Entries.{lookup_head, lookup_tail}
use Rattle.std.proofs.lemmas.Map.Keys.{below_from_sorted}
use Rattle.staged.specs.Pages.{page_at, HoldsPage, Rises}
use Rattle.staged.specs.declared.pages.Page.{Page}
use Rattle.staged.proofs.Homed.{held_at}
use Rattle.staged.proofs.Found.{at_head, at_tail, at_none, keeps_first, or_none}

-- a number and the bytes of its page
abbrev pub Entry : Type 0
Entry = ℕ × Box (List ℕ)

abbrev pub as_page : Entry → Page
as_page entry = record { number = entry.0; bytes = entry.1.value }

abbrev pub as_pages : List Entry → List Page
as_pages entries = map (λ (entry : Entry). record { number = entry.0; bytes = entry.1.value }) entries

abbrev pub opened : Option (Box (List ℕ)) → Option (List ℕ)
opened None = None
opened (Some page) = Some page.value

told : (n m : ℕ) (r : Ordering) → MatchOrdering r (n < m) (n ≡ m) (m < n) → (m ≡ n → is_eq r ≡ true) × (m ≢ n → is_eq r ≡ false)
told n m Less is = (λ same. absurd (omega (arith, is, same)), λ other. refl)
told n m Equal is = (λ same. refl, λ other. absurd (other (sym is)))
told n m Greater is = (λ same. absurd (omega (arith, is, same)), λ other. refl)

pub is_same : (n m : ℕ) → m ≡ n → is_eq (nat_cmp n m) ≡ true
is_same n m same = (told n m (nat_cmp n m) (ranked n m (nat_cmp n m) refl)).0 same

pub is_other : (n m : ℕ) → m ≢ n → is_eq (nat_cmp n m) ≡ false
is_other n m other = (told n m (nat_cmp n m) (ranked n m (nat_cmp n m) refl)).1 other

-- the page of a number is what the map has there
pub at_entry : (entries : List Entry) (n : ℕ) → page_at (as_pages entries) n ≡ opened (lookup (is_at (nat_cmp n)) entries)
at_entry [] n = refl
at_entry (e ∷ es) n = elim (cases_eq e.0 n) [
  | inl same ↦ at_head (as_page e) (as_pages es) n same ∙ sym (ap opened (lookup_head (is_at (nat_cmp n)) e es (is_same n e.0 same)))
  | inr other ↦ at_tail (as_page e) (as_pages es) n other ∙ at_entry es n ∙ sym (ap opened (lookup_tail (is_at (nat_cmp n)) e es (is_other n e.0 other)))
]

rises_by : (none : Entry) (entries : List Entry) → IsStrictlySortedBy nat_cmp (keys_of entries) → Rises (as_pages entries)
rises_by none entries sorted = record {
  rising = λ i j d less within.
      let long : length (as_pages entries) ≡ length entries = length-map entries as_page in
      let size : length (keys_of entries) ≡ length entries = length-map entries (λ (e : Entry). e.0) in
      let last : j < length entries = omega arith in
      let first : i < length entries = omega arith in
      let low : (get_or (as_pages entries) i d).number ≡ (get_or entries i none).0 = ap (λ (p : Page). p.number) (get_or-map as_page entries i none d first) in
      let high : (get_or (as_pages entries) j d).number ≡ (get_or entries j none).0 = ap (λ (p : Page). p.number) (get_or-map as_page entries j none d last) in
      let low_key : get_or (keys_of entries) i 0 ≡ (get_or entries i none).0 = get_or-map (λ (e : Entry). e.0) entries i none 0 first in
      let high_key : get_or (keys_of entries) j 0 ≡ (get_or entries j none).0 = get_or-map (λ (e : Entry). e.0) entries j none 0 last in
      let below : get_or (keys_of entries) i 0 < get_or (keys_of entries) j 0 = below_from_sorted (keys_of entries) i j 0 sorted less (omega arith) in
      omega arith;
}

pub rises_listed : (entries : List Entry) → IsStrictlySortedBy nat_cmp (keys_of entries) → Rises (as_pages entries)
rises_listed [] sorted = record { rising = λ i j d less within. absurd (omega arith) }
rises_listed (e ∷ es) sorted = rises_by e (e ∷ es) sorted

pub keeps_held : (pages : List Page) (page : Page) (p : Option (List ℕ)) → page_at pages page.number ≡ p → IsTrue (is_some p) → (n : ℕ) → page_at pages n ≡ option_or (page_at pages n) (page_at (page ∷ []) n)
keeps_held pages page None is some n = absurd (cc some)
keeps_held pages page (Some bytes) is some n = keeps_first pages page bytes is n

-- a page was put into the map
pub inserted : (old new : List Entry) (page : Page) (bytes : Box (List ℕ)) → bytes.value ≡ page.bytes → page_at (as_pages old) page.number ≡ None
    → ((q : ℕ) → lookup (is_at (nat_cmp q)) new ≡ cond (is_at (nat_cmp page.number) q) (Some bytes) (lookup (is_at (nat_cmp q)) old))
    → (n : ℕ) → page_at (as_pages new) n ≡ option_or (page_at (as_pages old) n) (page_at (page ∷ []) n)
inserted old new page bytes held none updates n = elim (cases_eq page.number n) [
  | inl same ↦
      let gone : page_at (as_pages old) n ≡ None = subst (λ (m : ℕ). page_at (as_pages old) m ≡ None) same none in
      at_entry new n ∙ ap opened (updates n) ∙ ap (λ (b : Bool). opened (cond b (Some bytes) (lookup (is_at (nat_cmp n)) old))) (is_same page.number n (sym same))
      ∙ ap (λ (b : List ℕ). Some b) held
      ∙ sym (at_head page [] n same) ∙ ap (λ (p : Option (List ℕ)). option_or p (page_at (page ∷ []) n)) (sym gone)
  | inr other ↦
      at_entry new n ∙ ap opened (updates n) ∙ ap (λ (b : Bool). opened (cond b (Some bytes) (lookup (is_at (nat_cmp n)) old))) (is_other page.number n (λ same. other (sym same)))
      ∙ sym (at_entry old n) ∙ sym (or_none (page_at (as_pages old) n)) ∙ ap (λ (p : Option (List ℕ)). option_or (page_at (as_pages old) n) p) (sym (at_tail page [] n other))
]

-- and one was taken out, or not
pub opened_unless : (b : Bool) (p : Option (Box (List ℕ))) → opened (cond b None p) ≡ cond b None (opened p)
opened_unless true p = refl
opened_unless false p = refl

pub none_of : (p : Option (List ℕ)) → is_some p ≡ false → p ≡ None
none_of None is = refl
none_of (Some page) is = absurd (cc is)

pub some_of : {T : Type 0} (page : T) (p : Option T) → Some page ≡ p → is_some p ≡ true
some_of {T} page p is = sym (ap (λ (q : Option T). is_some q) is)

rises_tail : (page : Page) (pages : List Page) → Rises (page ∷ pages) → Rises pages
rises_tail page pages rises = record { rising = λ i j d less within. rises.rising (suc i) (suc j) d (omega arith) (omega arith) }

none_behind : (page : Page) (pages : List Page) (n : ℕ) → Rises (page ∷ pages) → n ≤ page.number → page_at pages n ≡ None
none_behind page pages n rises most = at_none pages n (λ k d below.
    let less : page.number < (get_or pages k d).number = rises.rising zero (suc k) d (omega arith) (omega arith) in
    let e : (get_or pages k d).number ≢ n = omega arith in e)

none_below : (page : Page) (pages : List Page) (n : ℕ) → Rises (page ∷ pages) → n < page.number → page_at (page ∷ pages) n ≡ None
none_below page pages n rises less = at_tail page pages n (let e : page.number ≢ n = omega arith in e) ∙ none_behind page pages n rises (omega arith)

none_some : (bytes : List ℕ) → None ≡ Some bytes → ⊥
none_some bytes is = cc

-- lists that rise and have the same pages are alike
same_rising : (ps qs : List Page) → Rises ps → Rises qs → ((n : ℕ) → page_at ps n ≡ page_at qs n) → ps ≡ qs
same_rising [] [] rises also same = refl
same_rising [] (q ∷ qs) rises also same = absurd (none_some q.bytes (same q.number ∙ at_head q qs q.number refl))
same_rising (p ∷ ps) [] rises also same = absurd (none_some p.bytes (sym (same p.number) ∙ at_head p ps p.number refl))
same_rising (p ∷ ps) (q ∷ qs) rises also same =
    let number : p.number ≡ q.number = elim (cases_lt p.number q.number) [
      | inl less ↦ absurd (none_some p.bytes (sym (none_below q qs p.number also less) ∙ sym (same p.number) ∙ at_head p ps p.number refl))
      | inr least ↦ elim (cases_lt q.number p.number) [
        | inl less ↦ absurd (none_some q.bytes (sym (none_below p ps q.number rises less) ∙ same q.number ∙ at_head q qs q.number refl))
        | inr most ↦ omega arith
      ]
    ] in
    let found : Some p.bytes ≡ Some q.bytes = sym (at_head p ps p.number refl) ∙ same p.number ∙ at_head q qs p.number (sym number) in
    let bytes : p.bytes ≡ q.bytes = cc in
    let rest : ps ≡ qs = same_rising ps qs (rises_tail p ps rises) (rises_tail q qs also) (λ n. elim (cases_eq p.number n) [
      | inl here ↦ none_behind p ps n rises (omega arith) ∙ sym (none_behind q qs n also (omega arith))
      | inr other ↦ sym (at_tail p ps n other) ∙ same n ∙ at_tail q qs n (λ is. other (number ∙ is))
    ]) in
    λ i. record { number = number i; bytes = bytes i } ∷ rest i

-- maps with the same pages are alike
pub same_pages : (old new : BTreeMap ℕ (Box (List ℕ))) → IsOrdered nat_cmp old → IsOrdered nat_cmp new → ((n : ℕ) → page_at (as_pages new.entries) n ≡ page_at (as_pages old.entries) n) → as_pages new.entries ≡ as_pages old.entries
same_pages old new sorted also same = same_rising (as_pages new.entries) (as_pages old.entries) (rises_listed new.entries also) (rises_listed old.entries sorted) same

-- the next entry of a map that is gone through
pub next_entry : (entries : List Entry) (k : ℕ) (entry : Entry) (rest : List Entry) → drop k entries ≡ entry ∷ rest
    → (k < length (as_pages entries)) × ((d : Page) → get_or (as_pages entries) k d ≡ as_page entry) × (drop (suc k) entries ≡ rest)
next_entry [] zero entry rest is = absurd (cc is)
next_entry [] (suc k) entry rest is = absurd (cc is)
next_entry (e ∷ es) zero entry rest is = let first : e ≡ entry = cc in let others : es ≡ rest = cc in (omega arith, λ d. ap as_page first, others)
next_entry (e ∷ es) (suc k) entry rest is = let next = next_entry es k entry rest is in (omega (arith, next.0), next.1, next.2)

at_least : (pages : List Page) (k : ℕ) (d : Page) → Rises pages → k < length pages → k ≤ (get_or pages k d).number
at_least pages zero d rises within = omega arith
at_least pages (suc k) d rises within =
    let before : k ≤ (get_or pages k d).number = at_least pages k d rises (omega arith) in
    let less : (get_or pages k d).number < (get_or pages (suc k) d).number = rises.rising k (suc k) d (omega arith) within in
    omega arith

-- pages of small numbers are few
pub few_pages : (pages : List Page) (most : ℕ) → Rises pages → ((page : ℕ) → HoldsPage pages page → page < most) → length pages ≤ most
few_pages [] most rises small = omega arith
few_pages (page ∷ pages) most rises small =
    let all : List Page = page ∷ pages in
    let last : length pages < length all = omega arith in
    let least : length pages ≤ (get_or all (length pages) page).number = at_least all (length pages) page rises last in
    let below : (get_or all (length pages) page).number < most = small _ (held_at all (length pages) page rises last) in
    omega arith

-- its page is the one in the list
pub page_here : (entries : List Entry) (k : ℕ) (page d : Page) (entry : Entry) (rest : List Entry) → drop k entries ≡ entry ∷ rest → page ≡ as_page entry
    → (k < length (as_pages entries)) × (page ≡ get_or (as_pages entries) k d) × (drop (k + 1) entries ≡ rest)
page_here entries k page d entry rest is same =
    let next = next_entry entries k entry rest is in
    (next.0, same ∙ sym (next.1 d), ap (λ (m : ℕ). drop m entries) (add-one k) ∙ next.2)

-- none is left
pub no_entry : (entries : List Entry) (k : ℕ) → drop k entries ≡ [] → length (as_pages entries) ≤ k
no_entry entries k is =
    let left : length (drop k entries) ≡ 0 = ap (λ (es : List Entry). length es) is in
    let long : length (as_pages entries) ≡ length entries = length-map entries as_page in
    omega (arith, length-drop k entries)

pub at_end : (entries : List Entry) (k : ℕ) → drop k entries ≡ [] → k ≤ length (as_pages entries) → k ≡ length (as_pages entries)
at_end entries k is within = let past : length (as_pages entries) ≤ k = no_entry entries k is in omega arith
