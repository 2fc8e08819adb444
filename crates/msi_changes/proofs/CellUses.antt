-- Cells whose texts are counted, or taken back, among the uses of others.
use Rattle.std.proofs.Common.{◌≡◌, ◌∙◌, ℕ, zero, suc, ◌+◌, ◌-◌, ◌<◌, Bool, true, false, cond, List, refl, ap, arith, Some, None, Result, Ok, Err, if◌then◌else◌}
use Rattle.std.specs.Prelude.{◌==◌, nat_le, option_map, IfOk}
use Rattle.std.proofs.lemmas.Bool.Decides.{nat_tests}
use Rattle.cfb_medium.specs.declared.error.Error.{Error}
use Rattle.cfb_medium.specs.declared.error.Error.TheVariants.{InvalidData, InvalidInput}
use Rattle.msi_texts.specs.Results.{◌>>=◌, or_refused}
use Rattle.msi_values.specs.Datum.{Datum, null, number, text, binary}
use Rattle.msi_pool.specs.Pool.{Pool, pool_entry_at, last_place, place_among, used, with_refcount_down}
use Rattle.msi_pool.specs.declared.stringref.ValueRef.{ValueRef}
use Rattle.msi_pool.specs.declared.stringref.ValueRef.TheVariants as cell
use Rattle.msi_pool.specs.Refs.{value_at}
use Rattle.msi_pool_index.proofs.PoolPlaces.{place_among-pos}
use Rattle.msi_changes.specs.Laws.{names_place}
use Rattle.msi_changes.specs.Changes.{counted, taken_back}
use Rattle.msi_changes.proofs.Kept.{in_use, kept_at, stands_at}
use Rattle.msi_changes.proofs.PlaceCounts.{count_left, count_used}

-- each place has so many uses
pub record HasUses (pool : Pool) (uses : ℕ → ℕ) : Type 0 where
  pub counts : (n : ℕ) → 0 < n → (pool_entry_at pool.places n).count ≡ uses n

-- the texts that have such uses stay
pub record Stays (uses : ℕ → ℕ) (old new : Pool) : Type 0 where
  pub texts : (n : ℕ) → 0 < n → 0 < uses n → (pool_entry_at new.places n).text ≡ (pool_entry_at old.places n).text

pub all_stay : (uses : ℕ → ℕ) (p : Pool) → Stays uses p p
all_stay uses p = record { texts = λ n at some. refl }

pub stays_then : {uses : ℕ → ℕ} {p q r : Pool} → Stays uses p q → Stays uses q r → Stays uses p r
stays_then one two = record { texts = λ n at some. two.texts n at some ∙ one.texts n at some }

pub fewer_stay : {more uses : ℕ → ℕ} {p q : Pool} → ((n : ℕ) → 0 < n → 0 < uses n → 0 < more n) → Stays more p q → Stays uses p q
fewer_stay fewer s = record { texts = λ n at some. s.texts n at (fewer n at some) }

pub same_uses : {uses same : ℕ → ℕ} {p : Pool} → ((n : ℕ) → 0 < n → uses n ≡ same n) → HasUses p uses → HasUses p same
same_uses are h = record { counts = λ n at. h.counts n at ∙ are n at }

-- whether a cell is a use of a place
abbrev pub use_of : ValueRef → ℕ → ℕ
use_of v n = cond (names_place n v) 1 0

-- a cell that names no place 0
abbrev pub IsPlaced : ValueRef → Type 0
IsPlaced v = use_of v 0 ≡ 0

-- What is given for something wanted, in the pool after it: its uses stand beside the others, it is read as wanted, and the texts of the others stay.
pub record Gives {Y D : Type 0} (see : Pool → Y → D) (ok : Y → Type 0) (uses : Y → ℕ → ℕ) (others : ℕ → ℕ) (old : Pool) (wanted : D) (r : Y × Pool) : Type 0 where
  pub counts : HasUses r.1 (λ n. uses r.0 n + others n)
  pub reads : see r.1 r.0 ≡ wanted
  pub fine : ok r.0
  pub stays : Stays others old r.1

abbrev pub GivesCell : (ℕ → ℕ) → Pool → Datum → ValueRef × Pool → Type 0
GivesCell others old d r = Gives value_at IsPlaced use_of others old d r

-- the first of steps, then the others
pub after_ok : {A B : Type 0} (P : A → Type 0) (Q : B → Type 0) (r : Result A Error) (f : A → Result B Error) → IfOk r P → ((a : A) → P a → IfOk (f a) Q) → IfOk (r >>= f) Q
after_ok P Q (Ok a) f p next = next a p
after_ok P Q (Err e) f p next = tt

-- ---- a place by its number

index_after : (n : ℕ) → 0 < n → n - 1 + 1 ≡ n
index_after n at = omega (arith, at)

used_at : (t : List ℕ) (p : Pool) (n : ℕ) → 0 < n → (pool_entry_at (used p t).places n).count ≡ cond (place_among t p.places == n) 1 0 + (pool_entry_at p.places n).count
used_at t p n at = let e = index_after n at in let h = count_used t p.places (n - 1) in let k = rw e at h in omega (arith, k)

in_use_at : (p : Pool) (n : ℕ) → 0 < (pool_entry_at p.places n).count → in_use p.places (n - 1) ≡ true
in_use_at p n some = grind (arith, nat_tests)

above_none : (n : ℕ) → 0 < n → use_of (cell.Str n) 0 ≡ 0
above_none n at = grind (arith, nat_tests)

-- ---- counted

module _ (others : ℕ → ℕ) (p : Pool) (uses : HasUses p others) where
  unused : (v : ValueRef) → ((n : ℕ) → use_of v n ≡ 0) → HasUses p (λ n. use_of v n + others n)
  unused v none = record { counts = λ n at. (let z = none n in omega (arith, uses.counts n at, z)) }

  text_counted : (t : List ℕ) → GivesCell others p (text t) (cell.Str (place_among t p.places), used p t)
  text_counted t = record {
    counts = record { counts = λ n at. used_at t p n at ∙ ap (λ m. cond (place_among t p.places == n) 1 0 + m) (uses.counts n at) };
    reads = ap text (stands_at t p.places).0;
    fine = above_none (place_among t p.places) (place_among-pos t p.places);
    stays = record { texts = λ n at some. (kept_at t p.places (n - 1) (in_use_at p n (omega (arith, uses.counts n at, some)))).0 };
  }

  pub cell_counted : (d : Datum) → IfOk (counted p d) (GivesCell others p d)
  cell_counted null = record { counts = unused cell.Null (λ n. refl); reads = refl; fine = refl; stays = all_stay others p }
  cell_counted (number z) = record { counts = unused (cell.Int z) (λ n. refl); reads = refl; fine = refl; stays = all_stay others p }
  cell_counted (text t) = on (nat_le (place_among t p.places) (last_place p.long))
    where
      on : (b : Bool) → IfOk (or_refused {A = ValueRef × Pool} (option_map (λ n. (cell.Str n, used p t)) (if b then Some (place_among t p.places) else None)) InvalidInput) (GivesCell others p (text t))
      on true = text_counted t
      on false = tt
  cell_counted binary = record { counts = unused cell.Binary (λ n. refl); reads = refl; fine = refl; stays = all_stay others p }

-- ---- taken back

-- the uses of others are left, and their texts
abbrev pub Leaves : (ℕ → ℕ) → Pool → Pool → Type 0
Leaves others old new = HasUses new others × Stays others old new

module _ (others : ℕ → ℕ) (p : Pool) where
  nothing_taken : (v : ValueRef) → ((n : ℕ) → use_of v n ≡ 0) → HasUses p (λ n. use_of v n + others n) → Leaves others p p
  nothing_taken v none h = (record { counts = λ n at. (let z = none n in omega (arith, h.counts n at, z)) }, all_stay others p)

  left_at : (m n : ℕ) → 0 < n → (pool_entry_at p.places n).count ≡ cond (suc m == n) 1 0 + others n → (pool_entry_at (with_refcount_down (suc m) p.places) n).count ≡ others n
  left_at m n at h = grind (arith, nat_tests, (count_left m p.places (n - 1)).0)

  text_taken : (m : ℕ) → HasUses p (λ n. use_of (cell.Str (suc m)) n + others n) → Leaves others p (record p { places = with_refcount_down (suc m) p.places })
  text_taken m h = (
    record { counts = λ n at. left_at m n at (h.counts n at) },
    record { texts = λ n at some. (count_left m p.places (n - 1)).1 (omega (arith, left_at m n at (h.counts n at), some)) },
  )

  pub cell_taken : (v : ValueRef) → IsPlaced v → HasUses p (λ n. use_of v n + others n) → IfOk (taken_back p v) (Leaves others p)
  cell_taken cell.Null placed h = nothing_taken cell.Null (λ n. refl) h
  cell_taken (cell.Int z) placed h = nothing_taken (cell.Int z) (λ n. refl) h
  cell_taken (cell.Str zero) placed h = absurd (omega (arith, placed))
  cell_taken (cell.Str (suc m)) placed h = on ((pool_entry_at p.places (suc m)).count == 0)
    where
      on : (b : Bool) → IfOk (if b then Err InvalidData else Ok (record p { places = with_refcount_down (suc m) p.places })) (Leaves others p)
      on true = tt
      on false = text_taken m h
  cell_taken cell.Binary placed h = nothing_taken cell.Binary (λ n. refl) h

-- ---- read

own_place : (n : ℕ) → (n == n) ≡ true
own_place n = grind (arith, nat_tests)

own_use : (n : ℕ) (others : ℕ → ℕ) → 0 < use_of (cell.Str n) n + others n
own_use n others = rw (own_place n) (omega arith)

placed_after : (n : ℕ) → IsPlaced (cell.Str n) → 0 < n
placed_after zero placed = absurd (omega (arith, placed))
placed_after (suc n) placed = omega arith

pub cell_stays : (p q : Pool) (v : ValueRef) (others : ℕ → ℕ) → IsPlaced v → Stays (λ n. use_of v n + others n) p q → value_at q v ≡ value_at p v
cell_stays p q cell.Null others placed s = refl
cell_stays p q (cell.Int z) others placed s = refl
cell_stays p q (cell.Str n) others placed s = ap text (s.texts n (placed_after n placed) (own_use n others))
cell_stays p q cell.Binary others placed s = refl
