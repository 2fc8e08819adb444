-- Changes one after the other, and owners whose sectors stay.
use Rattle.std.proofs.Common.{◌≡◌, ℕ, inl, inr, ◌<◌, ◌⊎◌, List, [], ◌∷◌, ◌++◌, length, get_or, zero, suc, refl, sym, ap, subst, ◌∙◌, arith, ⊎_elim}
use Rattle.std.specs.Prelude.{slice_get, slice_index_or, Some}
use Rattle.std.specs.List.{flat_map, AllByRecursion}
use Rattle.std.proofs.lemmas.Bool.Decides.{eqb_tells, leb_tells}
use Rattle.std.proofs.lemmas.Option.{slice_get_within, slice_get-get_or, get_or_from_slice_get}
use Rattle.cfb_sectors.specs.Sectors.{end_of_chain, free, Chain as IsChain}
use Rattle.cfb_chains.specs.Changes.{AreSubsetOf, AreDisjoint, IsFreeIn, IsNotIn}
use Rattle.cfb_chains.specs.Grown.{IsChainInTable}
use Rattle.cfb_chains.specs.Owned.{AreBesideWords, ChangesAtMost, ReplacesOwnedChain, OwnDisjointChains, SectorLayer, KeepsOwnedSectors}
use Rattle.cfb_chains.proofs.Beside.{none_both, none_first, none_second}
use Rattle.cfb_chains.proofs.ChainGrowing.{in_use}

words_first : (xs ys : List ℕ) (p c : ℕ) → AreBesideWords (xs ++ ys) p c → AreBesideWords xs p c
words_first [] ys p c h = tt
words_first (x ∷ xs) ys p c h = (h.0, words_first xs ys p c h.1)

words_second : (xs ys : List ℕ) (p c : ℕ) → AreBesideWords (xs ++ ys) p c → AreBesideWords ys p c
words_second [] ys p c h = h
words_second (x ∷ xs) ys p c h = words_second xs ys p c h.1

module _ (S : List ℕ → ℕ → List ℕ) where
  -- one change after another is a change
  pub leaves_then : (ws vs xs ys : List ℕ) (a b c : SectorLayer) → ChangesAtMost S ws xs a b → ChangesAtMost S vs ys b c → ChangesAtMost S (ws ++ vs) (xs ++ ys) a c
  leaves_then ws vs xs ys a b c h k = record {
    longer = let p = h.longer in let q = k.longer in omega (arith, p, q);
    size = let p = h.size in let q = k.size in omega (arith, p, q);
    entries = λ n below none. k.entries n (let p = h.size in omega (arith, p, below)) (none_second xs ys n none) ∙ h.entries n below (none_first xs ys n none);
    sectors = λ n below loose none. k.sectors n (let p = h.size in omega (arith, p, below)) (h.apart n below loose) (none_second xs ys n none) ∙ h.sectors n below loose (none_first xs ys n none);
    apart = λ n below loose. k.apart n (let p = h.size in omega (arith, p, below)) (h.apart n below loose);
    still = λ n loose. h.still n (k.still n loose);
    behind = λ n past below none.
        ⊎_elim
        (λ later. k.behind n later.1 below (none_second xs ys n none))
        (λ sooner. let was = h.behind n past sooner.1 (none_first xs ys n none) in (
          (λ loose. was.0 (k.still n loose)),
          (λ is. was.1 (sym (k.entries n sooner.1 (none_second xs ys n none)) ∙ is)),
        ))
        (leb_tells (length b.table) n);
    header = λ p c front beside.
        k.header p c front (beside.0, words_second ws vs p c beside.1) ∙ h.header p c front (beside.0, words_first ws vs p c beside.1);
  }

  -- a change that touches less touches more
  pub leaves_more : (ws xs ys : List ℕ) (a b : SectorLayer) → AreSubsetOf ys xs → ChangesAtMost S ws xs a b → ChangesAtMost S ws ys a b
  leaves_more ws xs ys a b among h = record {
    longer = h.longer;
    size = h.size;
    entries = λ n below none. h.entries n below (among n none);
    sectors = λ n below loose none. h.sectors n below loose (among n none);
    apart = h.apart;
    still = h.still;
    behind = λ n past below none. h.behind n past below (among n none);
    header = h.header;
  }

  module _ (ws touched : List ℕ) (a b : SectorLayer) (h : ChangesAtMost S ws touched a b) where
    entry_left : (n next : ℕ) → IsNotIn touched n → slice_get a.table n ≡ Some next → slice_get b.table n ≡ Some next
    entry_left n next none found =
        let below = slice_get_within a.table n next found in
        slice_get-get_or b.table n 0 (let p = h.size in omega (arith, below, p)) ∙ ap Some (h.entries n below none ∙ get_or_from_slice_get a.table n next 0 found)

    -- chains of which nothing is touched stay, beside the tables, with their bytes
    pub chain_left : (start : ℕ) (ids : List ℕ) → IsChain a.table start ids → AreDisjoint touched ids → AreDisjoint a.tables ids
        → IsChain b.table start ids × AreDisjoint b.tables ids × (flat_map (S b.bytes) ids ≡ flat_map (S a.bytes) ids)
    chain_left start [] is none loose = (is, tt, refl)
    chain_left start (x ∷ ids) (is, regular, next, found, rest) none loose =
        let later = chain_left next ids rest none.1 loose.1 in
        let below = slice_get_within a.table x next (subst (λ s. slice_get a.table s ≡ Some next) (sym is) found) in (
          (is, regular, next, entry_left start next (subst (IsNotIn touched) is none.0) found, later.0),
          (h.apart x below loose.0, later.1),
          ap (λ l. l ++ flat_map (S b.bytes) ids) (h.sectors x below loose.0 none.0) ∙ ap (λ l. S a.bytes x ++ l) later.2,
        )

all_at : (xs ns : List ℕ) (k : ℕ) → k < length ns → AreDisjoint xs ns → IsNotIn xs (get_or ns k 0)
all_at xs [] k below all = absurd (omega (arith, below))
all_at xs (n ∷ ns) zero below all = all.0
all_at xs (n ∷ ns) (suc k) below all = all_at xs ns k (omega (arith, below)) all.1

all_of : (xs ns : List ℕ) → ((k : ℕ) → k < length ns → IsNotIn xs (get_or ns k 0)) → AreDisjoint xs ns
all_of xs [] each = tt
all_of xs (n ∷ ns) each = (each 0 (omega arith), all_of xs ns (λ k below. each (suc k) (omega (arith, below))))

none_sym : (xs ns : List ℕ) → AreDisjoint xs ns → AreDisjoint ns xs
none_sym xs ns all = all_of ns xs (λ k below j there same. all_at xs ns j there all k below (sym same))

among_then : (all xs ns : List ℕ) → AreSubsetOf all xs → AreDisjoint all ns → AreDisjoint xs ns
among_then all xs [] among none = tt
among_then all xs (n ∷ ns) among none = (among n none.0, among_then all xs ns among none.1)

none_then : (xs ys ns : List ℕ) → AreDisjoint xs ns → AreDisjoint ys ns → AreDisjoint (xs ++ ys) ns
none_then xs ys [] first second = tt
none_then xs ys (n ∷ ns) first second = (none_both xs ys n first.0 second.0, none_then xs ys ns first.1 second.1)

free_none : (table : List ℕ) (start : ℕ) (ids more : List ℕ) → IsChain table start ids → AllByRecursion (IsFreeIn table) more → AreDisjoint ids more
free_none table start ids [] chain were = tt
free_none table start ids (n ∷ more) chain were = (in_use table start ids n chain were.0, free_none table start ids more chain were.1)

-- a number is in a list or not
pub is_among : (xs : List ℕ) (n : ℕ) → IsNotIn xs n ⊎ ((k : ℕ) × (k < length xs) × (get_or xs k 0 ≡ n))
is_among [] n = inl (λ k below same. absurd (omega (arith, below)))
is_among (x ∷ xs) n =
    ⊎_elim
    (λ same. inr (0, omega arith, same.1))
    (λ differ. ⊎_elim
    (λ none. inl (not_here differ.1 none))
    (λ found. inr (suc found.0, (let b = found.1 in omega (arith, b)), found.2))
    (is_among xs n))
    (eqb_tells x n)
  where
    not_here : (x ≡ n → ⊥) → IsNotIn xs n → IsNotIn (x ∷ xs) n
    not_here differ none zero below same = differ same
    not_here differ none (suc k) below same = none k (omega (arith, below)) same

pub none_of_nothing : (xs : List ℕ) → AreDisjoint [] xs
none_of_nothing [] = tt
none_of_nothing (x ∷ xs) = ((λ k below same. absurd (omega (arith, below))), none_of_nothing xs)

-- no sector was touched: all owners have what they had
module _ (S : List ℕ → ℕ → List ℕ) (s t : SectorLayer) (own : ℕ → List ℕ) (ws : List ℕ) (owned : OwnDisjointChains s.table s.tables own) (h : ChangesAtMost S ws [] s t) where
  pub each_left : (k : ℕ) → KeepsOwnedSectors S s t (own k)
  each_left k =
      let left = chain_left S ws [] s t h (slice_index_or (own k) 0 end_of_chain) (own k) (owned.linked k) (none_of_nothing (own k)) (owned.beside k) in
      record { linked = left.0; beside = left.1; bytes = left.2 }

  pub owned_still : OwnDisjointChains t.table t.tables own
  owned_still = record {
    linked = λ k. (each_left k).linked;
    apart = owned.apart;
    beside = λ k. (each_left k).beside;
    marked = λ n freed.
        let below = slice_get_within t.table n free freed in
        let is = get_or_from_slice_get t.table n free 0 freed in
        ⊎_elim
        (λ past. absurd ((h.behind n past.1 below (none_of_nothing (n ∷ [])).0).1 is))
        (λ before. h.apart n before.1 (owned.marked n (slice_get-get_or s.table n 0 before.1 ∙ ap Some (sym (h.entries n before.1 (none_of_nothing (n ∷ [])).0) ∙ is))))
        (leb_tells (length s.table) n);
  }

-- one owner's chain became another list of what it had and what was free: all others stay, with their bytes
module _ (S : List ℕ → ℕ → List ℕ) (s t : SectorLayer) (own own' : ℕ → List ℕ) (key : ℕ) (ws ids more : List ℕ) (owned : OwnDisjointChains s.table s.tables own) (m : ReplacesOwnedChain S ws key ids more s t own own') where
  h : ChangesAtMost S ws (own key ++ more) s t
  h = m.becomes.leaves

  untouched : (k : ℕ) → (k ≡ key → ⊥) → AreDisjoint (own key ++ more) (own k)
  untouched k other =
      none_then (own key) more (own k) (owned.apart key k (λ same. other (sym same)))
      (none_sym (own k) more (free_none s.table (slice_index_or (own k) 0 end_of_chain) (own k) more (owned.linked k) m.becomes.were_free))

  pub other_left : (k : ℕ) → (k ≡ key → ⊥) → KeepsOwnedSectors S s t (own k)
  other_left k other =
      let left = chain_left S ws (own key ++ more) s t h (slice_index_or (own k) 0 end_of_chain) (own k) (owned.linked k) (untouched k other) (owned.beside k) in
      record { linked = left.0; beside = left.1; bytes = left.2 }

  -- what the key owned lies beside the new tables
  still_beside : (start : ℕ) (xs : List ℕ) → IsChain s.table start xs → AreDisjoint s.tables xs → AreDisjoint t.tables xs
  still_beside start [] chain beside = tt
  still_beside start (x ∷ xs) (is, regular, next, found, rest) beside =
      (h.apart x (slice_get_within s.table x next (subst (λ m. slice_get s.table m ≡ Some next) (sym is) found)) beside.0, still_beside next xs rest beside.1)

  all_beside : (xs ys : List ℕ) → AreDisjoint t.tables xs → AreDisjoint t.tables ys → AreDisjoint t.tables (xs ++ ys)
  all_beside [] ys first second = second
  all_beside (x ∷ xs) ys first second = (first.0, all_beside xs ys first.1 second)

  touched_beside : AreDisjoint t.tables (own key ++ more)
  touched_beside = all_beside (own key) more (still_beside (slice_index_or (own key) 0 end_of_chain) (own key) (owned.linked key) (owned.beside key)) m.becomes.spare

  mine_beside : AreDisjoint t.tables ids
  mine_beside = none_sym ids t.tables (among_then (own key ++ more) ids t.tables m.becomes.among (none_sym t.tables (own key ++ more) touched_beside))

  mine_apart : (k : ℕ) → (k ≡ key → ⊥) → AreDisjoint ids (own k)
  mine_apart k other = among_then (own key ++ more) ids (own k) m.becomes.among (untouched k other)

  pub owned_changed : OwnDisjointChains t.table t.tables own'
  owned_changed = record {
    linked = λ k. ⊎_elim (λ same. subst (IsChainInTable t.table) (sym (ap own' same.1 ∙ m.mine)) m.becomes.linked) (λ differ. subst (IsChainInTable t.table) (sym (m.others k differ.1)) (other_left k differ.1).linked) (eqb_tells k key);
    apart = λ k l differ.
        ⊎_elim
        (λ first. ⊎_elim
        (λ second. absurd (differ (first.1 ∙ sym second.1)))
        (λ other. subst (λ x. AreDisjoint x (own' l)) (sym (ap own' first.1 ∙ m.mine)) (subst (AreDisjoint ids) (sym (m.others l other.1)) (mine_apart l other.1)))
        (eqb_tells l key))
        (λ other. ⊎_elim
        (λ second. subst (λ x. AreDisjoint x (own' l)) (sym (m.others k other.1)) (subst (AreDisjoint (own k)) (sym (ap own' second.1 ∙ m.mine)) (none_sym ids (own k) (mine_apart k other.1))))
        (λ both. subst (λ x. AreDisjoint x (own' l)) (sym (m.others k other.1)) (subst (AreDisjoint (own k)) (sym (m.others l both.1)) (owned.apart k l differ)))
        (eqb_tells l key))
        (eqb_tells k key);
    beside = λ k. ⊎_elim (λ same. subst (AreDisjoint t.tables) (sym (ap own' same.1 ∙ m.mine)) mine_beside) (λ differ. subst (AreDisjoint t.tables) (sym (m.others k differ.1)) (other_left k differ.1).beside) (eqb_tells k key);
    marked = λ n freed.
        let below = slice_get_within t.table n free freed in
        let is = get_or_from_slice_get t.table n free 0 freed in
        ⊎_elim
        (λ none. ⊎_elim
        (λ past. absurd ((h.behind n past.1 below none).1 is))
        (λ before. h.apart n before.1 (owned.marked n (slice_get-get_or s.table n 0 before.1 ∙ ap Some (sym (h.entries n before.1 none) ∙ is))))
        (leb_tells (length s.table) n))
        (λ found. subst (IsNotIn t.tables) found.2 (all_at t.tables (own key ++ more) found.0 found.1 touched_beside))
        (is_among (own key ++ more) n);
  }
