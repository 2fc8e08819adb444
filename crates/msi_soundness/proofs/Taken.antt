-- Uses that are taken table by table: the pool counts those of all tables just where nothing is left behind the last.
use Rattle.std.proofs.Common.{◌≡◌, ◌∙◌, ℕ, zero, suc, ◌+◌, Bool, true, false, List, [], ◌∷◌, map, refl, sym, ap, subst, arith, Some}
use Rattle.std.specs.Prelude.{◌==◌, ◌&&◌, ◌↔◌, All, IsTrue, is_some, unwrap_or}
use Rattle.std.proofs.lemmas.Bool.{and_parts}
use Rattle.std.proofs.lemmas.Bool.Decides.{nat_tests}
use Rattle.std.proofs.lemmas.List.Elements.{All-cons, All-head, All-tail}
use Rattle.std.proofs.lemmas.List.Sums.{sum_by-cons}
use Rattle.cfb_tree.specs.Names.{CaseTable}
use Rattle.cfb_tree.specs.Tree.{Tree}
use Rattle.msi_changes.specs.Laws.{uses_in}
use Rattle.msi_spec.proofs.Exact.{counted_down}
use Rattle.msi_spec.proofs.SoundUses.{rows_read}
use Rattle.msi_spec.specs.Package.{objects, table_stream}
use Rattle.msi_spec.specs.Sound.{refcounts_of}
use Rattle.msi_spec.specs.Uses.{CountsDown, TakesUses, counts_of, has_none, left_at}
use Rattle.msi_pool.specs.Pool.{Pool}
use Rattle.msi_stored.specs.StoredPackages.{rows_in}
use Rattle.msi_tables.specs.Rows.{Row, kinds_of}
use Rattle.msi_tables.specs.Table.{Heading, Table}
use Rattle.msi_soundness.proofs.Counted.{whole}
use Rattle.msi_soundness.specs.Counting.{AreCountedAt, TableIsRead, RefcountsTaken, rows_at, table_at}

-- ---- nothing is left

is_zero : (n : ℕ) → (n == 0) ≡ true → n ≡ 0
is_zero n e = grind (arith, nat_tests)

zero_is : (n : ℕ) → n ≡ 0 → (n == 0) ≡ true
zero_is n e = grind (arith, nat_tests)

none_each : (left : List ℕ) → has_none left ≡ true → (k : ℕ) → left_at left k ≡ 0
none_each [] e k = refl
none_each (n ∷ ns) e zero = is_zero n (and_parts (n == 0) (has_none ns) e).0
none_each (n ∷ ns) e (suc k) = none_each ns (and_parts (n == 0) (has_none ns) e).1 k

each_none : (left : List ℕ) → ((k : ℕ) → left_at left k ≡ 0) → has_none left ≡ true
each_none [] h = refl
each_none (n ∷ ns) h = ap (λ b. b && has_none ns) (zero_is n (h 0)) ∙ each_none ns (λ k. h (suc k))

module _ (letters : CaseTable) (tree : Tree) where
  -- the rows of tables are read, and what is left is just what their cells use
  pub record AreLeft (left : List ℕ) (hs : List Heading) : Type 0 where
    pub read : All (TableIsRead letters tree) hs
    pub uses : (k : ℕ) → left_at left k ≡ refcounts_of (map (table_at letters tree) hs) (suc k)

  -- behind the last table
  pub nothing_left : (left : List ℕ) → IsTrue (has_none left) ↔ AreLeft left []
  nothing_left left = (
    λ none. record { read = λ k d l. absurd (omega (arith, l)); uses = none_each left none },
    λ a. each_none left a.uses,
  )

  -- rows that were read, whose uses were taken, and rows that can't be read
  pub read_taken : (h : Heading) (rows : List Row) (old new : List ℕ) (is : Bool) → rows_in letters tree h ≡ Some rows → TakesUses (uses_in rows) old new is → RefcountsTaken letters tree h old new is
  read_taken h rows old new is read took = record {
    read = λ _. ap is_some read;
    uses = λ _. subst (λ (rs : List Row). TakesUses (uses_in rs) old new is) (sym (ap (λ o. unwrap_or o []) read)) took;
  }

  pub unread_taken : (h : Heading) (old new : List ℕ) → (TableIsRead letters tree h → ⊥) → RefcountsTaken letters tree h old new false
  unread_taken h old new none = record { read = λ e. absurd (cc); uses = λ some. absurd (none some) }

  -- one table after the other
  module _ (h : Heading) (hs : List Heading) (old new : List ℕ) where
    parted : (n : ℕ) → refcounts_of (map (table_at letters tree) (h ∷ hs)) n ≡ uses_in (rows_at letters tree h) n + refcounts_of (map (table_at letters tree) hs) n
    parted n = sum_by-cons (λ (t : Table). uses_in t.rows n) (table_at letters tree h) (map (table_at letters tree) hs)

    pub one_taken : RefcountsTaken letters tree h old new true → AreLeft old (h ∷ hs) ↔ AreLeft new hs
    one_taken t = (
      λ a. record {
        read = All-tail (TableIsRead letters tree) h hs a.read;
        uses = λ k. (let took = (t.uses (t.read refl)).taken refl k in let all = a.uses k in let parts = parted (suc k) in omega (arith, took, all, parts));
      },
      λ a. record {
        read = All-cons (TableIsRead letters tree) h hs (t.read refl) a.read;
        uses = λ k. (let took = (t.uses (t.read refl)).taken refl k in let rest = a.uses k in let parts = parted (suc k) in omega (arith, took, rest, parts));
      },
    )

    pub one_short : RefcountsTaken letters tree h old new false → AreLeft old (h ∷ hs) → ⊥
    one_short t a =
        let short = (t.uses (All-head (TableIsRead letters tree) h hs a.read)).short refl in
        let few = short.1 in let all = a.uses short.0 in let parts = parted (suc short.0) in
        omega (arith, few, all, parts)

  -- ---- the pool's counts

  -- no cell of rows that are read names place 0
  none_named : (hs : List Heading) → All (TableIsRead letters tree) hs → refcounts_of (map (table_at letters tree) hs) 0 ≡ 0
  none_named [] all = refl
  none_named (h ∷ hs) all =
      let here = (rows_read h.long (kinds_of h.columns) (unwrap_or (table_stream letters (objects tree.content) h.name) []) (rows_at letters tree h)
      (whole (rows_in letters tree h) [] (All-head (TableIsRead letters tree) h hs all))).1 in
      let later = none_named hs (All-tail (TableIsRead letters tree) h hs all) in
      let parts = sum_by-cons (λ (t : Table). uses_in t.rows 0) (table_at letters tree h) (map (table_at letters tree) hs) in
      omega (arith, here, later, parts)

  module _ (pool : Pool) (hs : List Heading) where
    abbrev tables : List Table
    tables = map (table_at letters tree) hs

    -- counted as the clauses of a sound package say, they are used up
    used_up : refcounts_of tables 0 ≡ 0 → AreCountedAt letters tree pool hs → (k : ℕ) → left_at (counts_of pool.places) k ≡ refcounts_of tables (suc k)
    used_up none counted k = by (left_at (counts_of pool.places) k == refcounts_of tables (suc k)) refl
      where
        by : (b : Bool) → (left_at (counts_of pool.places) k == refcounts_of tables (suc k)) ≡ b → left_at (counts_of pool.places) k ≡ refcounts_of tables (suc k)
        by true e = grind (arith, nat_tests)
        by false e =
            let differ : left_at (counts_of pool.places) k ≡ refcounts_of tables (suc k) → ⊥ = λ same. let yes : (left_at (counts_of pool.places) k == refcounts_of tables (suc k)) ≡ true = grind (arith, nat_tests) in absurd (cc) in
            let down : CountsDown pool tables false = record { taken = λ f. absurd (cc); other = λ f. (k, differ) } in
            let no : false ≡ true = (counted_down pool tables false none down).1 counted.1 in
            absurd (cc)

    pub all_counted : AreLeft (counts_of pool.places) hs ↔ AreCountedAt letters tree pool hs
    all_counted = (
      λ a.
          let down : CountsDown pool tables true = record { taken = λ f. a.uses; other = λ f. absurd (cc) } in
          (a.read, (counted_down pool tables true (none_named hs a.read) down).0 refl),
      λ counted. record { read = counted.0; uses = used_up (none_named hs counted.0) counted },
    )
