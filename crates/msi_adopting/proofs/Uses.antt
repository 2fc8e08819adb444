-- Uses that are taken from the greatest counts, table by table.
use Rattle.std.proofs.Common.{◌≡◌, ◌∙◌, ℕ, zero, suc, ◌+◌, ◌-◌, ◌<◌, ◌≤◌, ◌⊎◌, inl, inr, true, false, List, [], ◌∷◌, map, length, refl, sym, subst, arith}
use Rattle.std.specs.Prelude.{All, Err, IfErr, IfOk, MatchResult, Ok, Result, Vec}
use Rattle.std.specs.declared.alloc.Global.{Global}
use Rattle.cfb_medium.specs.Calls.{IsFaultOrInvalidInputIf}
use Rattle.cfb_medium.specs.declared.error.Error.{Error}
use Rattle.cfb_medium.specs.declared.error.Error.TheVariants.{InvalidData, Memory}
use Rattle.std.proofs.lemmas.Bool.{cases_lt}
use Rattle.std.proofs.lemmas.List.{get_or-replicate, get_or_past, length-map, length-replicate}
use Rattle.std.proofs.lemmas.List.Elements.{All-cons, All-head, All-tail}
use Rattle.std.proofs.lemmas.List.Sums.{sum_by-cons}
use Rattle.cfb_tree.specs.Names.{CaseTable}
use Rattle.cfb_tree.specs.Tree.{Tree}
use Rattle.msi_changes.specs.Laws.{uses_in}
use Rattle.msi_soundness.specs.Counting.{TableIsRead, RefcountsTaken, rows_at, table_at}
use Rattle.msi_spec.specs.Sound.{refcounts_of}
use Rattle.msi_spec.specs.Uses.{left_at}
use Rattle.msi_tables.specs.Table.{Heading, Table}
use Rattle.msi_adopting.specs.Counted.{AreUsesAt, CanBeCounted, full_counts}

mapped : (left : List ℕ) (k : ℕ) → k < length left → left_at (map (λ l. 65535 - l) left) k ≡ 65535 - left_at left k
mapped [] k below = absurd (omega (arith, below))
mapped (l ∷ ls) zero below = refl
mapped (l ∷ ls) (suc k) below = mapped ls k (omega (arith, below))

module _ (letters : CaseTable) (tree : Tree) (n : ℕ) (all : List Heading) where
  abbrev uses_at : List Heading → ℕ → ℕ
  uses_at hs k = refcounts_of (map (table_at letters tree) hs) k

  -- what the tables so far use and what is left make the greatest count
  pub record SoFar (rest : List Heading) (left : List ℕ) : Type 0 where
    pub size : length left ≡ n
    pub sum : (k : ℕ) → left_at (full_counts n) k + uses_at rest (suc k) ≡ uses_at all (suc k) + left_at left k
    pub read : All (TableIsRead letters tree) rest → All (TableIsRead letters tree) all
    pub back : All (TableIsRead letters tree) all → All (TableIsRead letters tree) rest

  pub begins : SoFar all (full_counts n)
  begins = record { size = length-replicate n 65535; sum = λ k. omega arith; read = λ a. a; back = λ a. a }

  module _ (h : Heading) (rest : List Heading) (old new : List ℕ) (s : SoFar (h ∷ rest) old) where
    parted : (k : ℕ) → uses_at (h ∷ rest) k ≡ uses_in (rows_at letters tree h) k + uses_at rest k
    parted k = sum_by-cons (λ (t : Table). uses_in t.rows k) (table_at letters tree h) (map (table_at letters tree) rest)

    pub goes_on : RefcountsTaken letters tree h old new true → length new ≡ n → SoFar rest new
    goes_on t size = record {
      size = size;
      sum = λ k. (let took = (t.uses (t.read refl)).taken refl k in let so = s.sum k in let parts = parted (suc k) in omega (arith, took, so, parts));
      read = λ later. s.read (All-cons (TableIsRead letters tree) h rest (t.read refl) later);
      back = λ every. All-tail (TableIsRead letters tree) h rest (s.back every);
    }

    pub ends_short : RefcountsTaken letters tree h old new false → CanBeCounted letters tree all n → ⊥
    ends_short t can =
        let short = (t.uses (All-head (TableIsRead letters tree) h rest (s.back can.read))).short refl in
        let few = short.1 in let so = s.sum short.0 in let parts = parted (suc short.0) in let most = can.few short.0 in
        omega (arith, few, so, parts, most)

  pub ends : (left : List ℕ) → SoFar [] left → AreUsesAt letters tree all n (map (λ l. 65535 - l) left)
  ends left s = record {
    can = record { read = s.read (λ k d l. absurd (omega (arith, l))); few = λ k. (let so = s.sum k in omega (arith, so)) };
    size = length-map left (λ l. 65535 - l) ∙ s.size;
    each = λ k. by k (cases_lt k n);
  }
    where
      by : (k : ℕ) → (k < n) ⊎ (n ≤ k) → left_at (map (λ l. 65535 - l) left) k ≡ uses_at all (suc k)
      by k (inl below) =
          let so = s.sum k in let size = s.size in
          let full : left_at (full_counts n) k ≡ 65535 = get_or-replicate n k 65535 0 below in
          let here = mapped left k (omega (arith, below, size)) in
          omega (arith, so, full, here)
      by k (inr past) =
          let so = s.sum k in let size = s.size in
          let full : left_at (full_counts n) k ≡ 0 = get_or_past (full_counts n) k 0 (let long = length-replicate {A = ℕ} n 65535 in omega (arith, long, past)) in
          let none : left_at (map (λ l. 65535 - l) left) k ≡ 0 = get_or_past (map (λ l. 65535 - l) left) k 0 (let long = length-map left (λ l. 65535 - l) in omega (arith, long, size, past)) in
          omega (arith, so, full, none)

-- what was taken behind the last table, or want of memory
pub ended : (letters : CaseTable) (tree : Tree) (n : ℕ) (all : List Heading) (left : List ℕ) (r : Result (Vec ℕ Global) Error) → SoFar letters tree n all [] left
    → IfOk r (λ uses. uses.items ≡ map (λ l. 65535 - l) left) → IfErr r (λ e. e ≡ Memory)
    → MatchResult r (λ uses. AreUsesAt letters tree all n uses.items) (λ e. IsFaultOrInvalidInputIf ⊥ e ⊎ ((e ≡ InvalidData) × (CanBeCounted letters tree all n → ⊥)))
ended letters tree n all left (Ok uses) s ok err = subst (λ us. AreUsesAt letters tree all n us) (sym ok) (ends letters tree n all left s)
ended letters tree n all left (Err e) s ok err = inl (subst (IsFaultOrInvalidInputIf ⊥) (sym err) tt)
