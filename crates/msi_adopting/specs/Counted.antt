-- Uses that are counted, table by table: steps of private functions.
use Rattle.std.specs.Prelude.{◌≡◌, ℕ, suc, ◌≤◌, List, All, length, map, replicate}
use Rattle.cfb_tree.specs.Names.{CaseTable}
use Rattle.cfb_tree.specs.Tree.{Tree}
use Rattle.msi_soundness.specs.Counting.{TableIsRead, table_at}
use Rattle.msi_spec.specs.Sound.{refcounts_of}
use Rattle.msi_spec.specs.Uses.{left_at}
use Rattle.msi_tables.specs.Table.{Heading}

-- the greatest count at each of n places
abbrev pub full_counts : ℕ → List ℕ
full_counts n = replicate n 65535

module _ (letters : CaseTable) (tree : Tree) (hs : List Heading) (n : ℕ) where
  -- the rows of all tables can be read, and their cells name n places alone, none more often than a count can say
  pub record CanBeCounted : Type 0 where
    pub read : All (TableIsRead letters tree) hs
    pub few : (k : ℕ) → refcounts_of (map (table_at letters tree) hs) (suc k) ≤ left_at (full_counts n) k

  -- the list has these uses, place by place
  pub record AreUsesAt (uses : List ℕ) : Type 0 where
    pub can : CanBeCounted
    pub size : length uses ≡ n
    pub each : (k : ℕ) → left_at uses k ≡ refcounts_of (map (table_at letters tree) hs) (suc k)
