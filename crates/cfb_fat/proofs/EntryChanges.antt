-- Entries of the FAT are changed one after the other.
use Rattle.std.proofs.Common.{◌≡◌, ◌≢◌, ℕ, ◌+◌, ◌<◌, List, [], ◌∷◌, length, drop, length-drop, get_or, zero, suc, refl, ap, sym, subst, ◌∙◌, arith, ⊎_elim, IsTrue}
use Rattle.std.specs.Prelude.{◌||◌}
use Rattle.std.proofs.Math.ListN.{set}
use Rattle.std.proofs.lemmas.Bool.Decides.{eqb_tells, leb_tells}
use Rattle.std.proofs.lemmas.List.{get_or-set_same, get_or-set_other}
use Rattle.std.proofs.lemmas.Option.{slice_get_within}
use Rattle.cfb_medium.specs.Calls.{Reaches, IsJustifiedError}
use Rattle.cfb_medium.specs.declared.error.Error.{Error}
use Rattle.cfb_medium.specs.declared.medium.ReadMedium.{Ghosts}
use Rattle.cfb_sectors.specs.Held.{IsJustifiedByMedium, has_failed_here as sectors_failed}
use Rattle.cfb_sectors.specs.Sectors.{filled_part, Chain as IsChain}
use Rattle.cfb_sectors.specs.declared.sectors.Sectors.{Sectors}
use Rattle.cfb_sectors.proofs.Chains.{chain_from}
use Rattle.cfb_sectors.proofs.OneChain.{chain_unique}
use Rattle.cfb_fat.specs.declared.allocator.Allocator.{Allocator}
use Rattle.cfb_fat.specs.Changing.{ChangesFat}
use Rattle.cfb_chains.specs.Changes.{DifferOnlyAt, IsBeside, IsNotIn}
use Rattle.cfb_fat.specs.Orderly.{AreBelow}
use Rattle.cfb_fat.specs.Keeping.{ends_rest, told_same}
use Rattle.cfb_fat_runs.specs.Tables.{entries_of}
use Rattle.cfb_fat.specs.Tables.{fat_sectors_of, version_of, OnlyReadsAllocator}

pub one_is : (n m j : ℕ) → j < 1 → get_or (n ∷ []) j 0 ≡ m → n ≡ m
one_is n m zero below is = is
one_is n m (suc j) below is = absurd (omega arith)

pub none_later : (x : ℕ) (xs : List ℕ) (n : ℕ) → IsNotIn (x ∷ xs) n → IsNotIn xs n
none_later x xs n none k below same = none (suc k) (omega arith) same

pub differ_none : (ids fat : List ℕ) → DifferOnlyAt ids fat fat
differ_none ids fat = record { size = refl; others = λ n none. refl }

-- one entry more is set
pub entries_more : (entry : ℕ) (ids fat : List ℕ) (i : ℕ) → i < length ids → get_or ids i 0 < length fat → ((k : ℕ) → k < i → get_or fat (get_or ids k 0) 0 ≡ entry)
    → (k : ℕ) → k < i + 1 → get_or (set fat (get_or ids i 0) entry) (get_or ids k 0) 0 ≡ entry
entries_more entry ids fat i below inside before k less = ⊎_elim
    (λ same. ap (λ n. get_or (set fat (get_or ids i 0) entry) n 0) same.1 ∙ get_or-set_same fat (get_or ids i 0) entry 0 inside)
    (λ differ. get_or-set_other fat (get_or ids i 0) (get_or ids k 0) entry 0 differ.1 ∙ before k (earlier differ.1))
    (eqb_tells (get_or ids k 0) (get_or ids i 0))
  where
    earlier : get_or ids k 0 ≢ get_or ids i 0 → k < i
    earlier differ = ⊎_elim (λ past. absurd (let at : k ≡ i = omega (arith, past.1, less) in differ (ap (λ m. get_or ids m 0) at))) (λ here. here.1) (leb_tells i k)

-- a chain's sectors stand in the table
pub chain_inside : (table : List ℕ) (start : ℕ) (ids : List ℕ) → IsChain table start ids → AreBelow (length table) ids
chain_inside table start [] chain k below = absurd (omega arith)
chain_inside table start (x ∷ ids) (is, regular, next, found, rest) zero below = let inside = slice_get_within table start next found in omega (arith, inside, is)
chain_inside table start (x ∷ ids) (is, regular, next, found, rest) (suc k) below = chain_inside table next ids rest k (omega arith)

-- a chain's first sector doesn't come again
pub not_again : (table : List ℕ) (start : ℕ) (ids : List ℕ) → IsChain table start (start ∷ ids) → IsNotIn ids start
not_again table start ids chain k below same =
    let later = chain_from table start (start ∷ ids) (suc k) 0 (omega arith) chain in
    let equal = chain_unique table start (start ∷ ids) (drop k ids) chain (subst (λ n. IsChain table n (drop k ids)) same later) in
    omega (arith, ap length equal, length-drop k ids)

module _ {F : Type 0} {g : Ghosts F} where
  pub changes_none : (ids : List ℕ) (a : Allocator F g) → ChangesFat ids a a
  changes_none ids a = record {
    honest = refl;
    continues = λ start from. from;
    version = refl;
    count = refl;
    fat_sectors = refl;
    difat_sectors = refl;
    orderly = refl;
    live = λ live. live;
    fat = λ live. differ_none ids (entries_of a.fat);
    longer = λ live honest. omega arith;
    told = λ live honest told. told;
    ends = λ live honest orderly ends. ends;
    beside = λ live honest place count apart. refl;
  }

  pub changes_rest : (ids : List ℕ) (a b : Allocator F g) → OnlyReadsAllocator a b → ChangesFat ids a b
  changes_rest ids a b h = record {
    honest = h.sectors.honest;
    continues = h.sectors.continues;
    version = h.sectors.version;
    count = h.sectors.count;
    fat_sectors = h.fat_sectors;
    difat_sectors = h.difat_sectors;
    orderly = h.orderly;
    live = λ live. sym h.sectors.failed ∙ live;
    fat = λ live. record { size = ap length h.fat; others = λ n none. ap (λ l. get_or l n 0) h.fat };
    longer = λ live honest. let same = ap length (h.sectors.bytes honest) in omega (arith, same);
    told = λ live honest told. told_same a b (h.sectors.bytes honest) h.difat_sectors h.fat_sectors told;
    ends = λ live honest orderly. ends_rest a b h honest;
    beside = λ live honest place count apart. ap (λ b. filled_part b place count) (h.sectors.bytes honest);
  }

  pub changes_then : (xs ys zs : List ℕ) (a b c : Allocator F g) → ((n : ℕ) → IsNotIn zs n → IsNotIn xs n) → ((n : ℕ) → IsNotIn zs n → IsNotIn ys n) → ChangesFat xs a b → ChangesFat ys b c → ChangesFat zs a c
  changes_then xs ys zs a b c in_x in_y h k = record {
    honest = k.honest ∙ h.honest;
    continues = λ start from. k.continues start (h.continues start from);
    version = k.version ∙ h.version;
    count = k.count ∙ h.count;
    fat_sectors = k.fat_sectors ∙ h.fat_sectors;
    difat_sectors = k.difat_sectors ∙ h.difat_sectors;
    orderly = k.orderly ∙ h.orderly;
    live = λ live. h.live (k.live live);
    fat = λ live. record {
      size = (k.fat live).size ∙ (h.fat (k.live live)).size;
      others = λ n none. (k.fat live).others n (in_y n none) ∙ (h.fat (k.live live)).others n (in_x n none);
    };
    longer = λ live honest. let first = h.longer (k.live live) honest in let second = k.longer live (subst IsTrue (sym h.honest) honest) in omega (arith, first, second);
    told = λ live honest told. k.told live (subst IsTrue (sym h.honest) honest) (h.told (k.live live) honest told);
    ends = λ live honest orderly ends. k.ends live (subst IsTrue (sym h.honest) honest) (subst IsTrue (sym h.orderly) orderly) (h.ends (k.live live) honest orderly ends);
    beside = λ live honest place count apart.
        k.beside live (subst IsTrue (sym h.honest) honest) place count (subst (λ v. IsBeside v (fat_sectors_of b) place count) (sym h.version) (subst (λ fs. IsBeside (version_of a) fs place count) (sym h.fat_sectors) apart))
        ∙ h.beside (k.live live) honest place count apart;
  }

  pub changes_more : (ids : List ℕ) (a b c : Allocator F g) (i n : ℕ) → i < length ids → n ≡ get_or ids i 0 → ChangesFat ids a b → ChangesFat (n ∷ []) b c → ChangesFat ids a c
  changes_more ids a b c i n below is =
      changes_then ids (n ∷ []) ids a b c (λ m none. none) (λ m none j single same. none i below (sym is ∙ one_is n m j single same))

  -- an error has its cause also since a state from which calls led on that published nothing
  pub cause_since : (a b c : Sectors F g) (e : Error) → Reaches g.continues a.inner b.inner → sectors_failed b ≡ sectors_failed a → IsJustifiedByMedium b c e → IsJustifiedByMedium a c e
  cause_since a b c e continues failed cause = λ start from. subst (λ f. IsJustifiedError g.failures (λ m. f || g.failed m) start c.inner e) failed (cause start (continues start from))
