-- Nothing is found just where the tables in memory are judged sound.
use Rattle.std.proofs.Common.{⊎_elim, ◌≡◌, ◌≢◌, ◌∙◌, ℕ, zero, suc, ◌+◌, ◌<◌, ◌≤◌, min, Bool, true, false, List, [], ◌∷◌, ◌++◌, length, replicate, inl, inr, refl, sym, ap, subst, arith}
use Rattle.std.specs.Prelude.{Some, cond, filter, nat_le, slice_get, slice_index_or, if◌then◌else◌}
use Rattle.std.specs.List.{range_with_len, AllByRecursion}
use Rattle.std.proofs.lemmas.Bool.Decides.{eqb_tells, leb_tells, nat_tests}
use Rattle.std.proofs.lemmas.List.{length-replicate}
use Rattle.std.proofs.lemmas.Option.{slice_get_within}
use Rattle.cfb_sectors.specs.Header.{mini_cutoff}
use Rattle.cfb_sectors.specs.Sectors.{free, greatest_regular, Chain}
use Rattle.cfb_sectors.proofs.OneChain.{chain_unique}
use Rattle.cfb_tree.specs.Directory.{kind_stream, Entry}
use Rattle.cfb_tree.proofs.NamesRead.{all_append}
use Rattle.cfb_soundness.specs.Marks.{mark, times, CanTake}
use Rattle.cfb_soundness.specs.Uses.{AreInUse, EntriesHave, SectorTables}
use Rattle.cfb_soundness.proofs.Judged.{Judged}
use Rattle.cfb_soundness.proofs.Taking.{all_front}
use Rattle.cfb_findings.specs.Broken.{AreBroken}
use Rattle.cfb_findings.specs.Findings.{is_long, is_shared, is_short, is_unmarked, shared, start_where, starts_where, unmarked, ChainOrNone, ChainsFrom}
use Rattle.cfb_findings.proofs.Counting.{times_other}
use Rattle.cfb_findings.proofs.Linking.{entry_at}

-- the FAT's entry, or what stands for none
free_where : (xs : List ℕ) (n : ℕ) → (slice_index_or xs n free ≡ free → ⊥) → (m : ℕ) × (slice_get xs n ≡ Some m) × (m ≢ free)
free_where [] n used = absurd (used refl)
free_where (x ∷ xs) zero used = (x, refl, used)
free_where (x ∷ xs) (suc n) used = free_where xs n used

pub marked_used : (fat sectors : List ℕ) → unmarked fat sectors ≡ [] → AreInUse fat sectors
marked_used fat [] none = tt
marked_used fat (n ∷ sectors) none = by_test (is_unmarked fat n) refl none (λ rest. marked_used fat sectors rest)
  where
    by_test : (b : Bool) → is_unmarked fat n ≡ b → cond b (n ∷ unmarked fat sectors) (unmarked fat sectors) ≡ []
        → (unmarked fat sectors ≡ [] → AreInUse fat sectors) → AreInUse fat (n ∷ sectors)
    by_test true is wrong later = absurd (cc)
    by_test false is rest later = (free_where fat n (λ e. let t : is_unmarked fat n ≡ true = grind arith in absurd (cc)), later rest)

pub used_marked : (fat sectors : List ℕ) → AreInUse fat sectors → unmarked fat sectors ≡ []
used_marked fat [] used = refl
used_marked fat (n ∷ sectors) used =
    let next : slice_index_or fat n free ≡ used.0.0 = entry_at fat n free used.0.0 used.0.1 in
    let other : slice_index_or fat n free ≡ free → ⊥ = λ e. used.0.2 (sym next ∙ e) in
    let test : is_unmarked fat n ≡ false = grind arith in
    ap (λ b. cond b (n ∷ unmarked fat sectors) (unmarked fat sectors)) test ∙ used_marked fat sectors used.1

-- no entry is broken just where all have what they use
pub whole_have : (t : SectorTables) (ids : List ℕ) → AreBroken t ids [] → (sectors : List ℕ) × (minis : List ℕ) × EntriesHave t ids sectors minis
whole_have t [] none = ([], [], (refl, refl))
whole_have t (id ∷ ids) (inl (whole, rest)) =
    let more = whole_have t ids rest in
    (whole.0 ++ more.0, whole.1 ++ more.1, (whole.0, more.0, whole.1, more.1, whole.2, more.2, refl, refl))
whole_have t (id ∷ ids) (inr (broken, rest, is, later)) = absurd (cc)

pub have_whole : (t : SectorTables) (ids found sectors minis : List ℕ) → EntriesHave t ids sectors minis → AreBroken t ids found → found ≡ []
have_whole t [] found sectors minis have none = none
have_whole t (id ∷ ids) found sectors minis (own, rest, own_minis, rest_minis, here, later, is, minis_is) (inl (whole, more)) = have_whole t ids found rest rest_minis later more
have_whole t (id ∷ ids) found sectors minis (own, rest, own_minis, rest_minis, here, later, is, minis_is) (inr (broken, r, e, more)) = absurd (broken (own, own_minis, here))

one_chain : (table : List ℕ) (start : ℕ) (own ids : List ℕ) → ChainOrNone table start own → Chain table start ids → own ≡ ids
one_chain table start own ids (inl chain) other = chain_unique table start own ids chain other
one_chain table start own ids (inr none) other = absurd (none.1 ids other)

start_of_long : (e : Entry) → e.kind ≡ kind_stream → mini_cutoff ≤ e.size → is_long e ≡ true
start_of_long e kind up = grind (arith, nat_tests)

start_of_short : (e : Entry) → e.kind ≡ kind_stream → e.size < mini_cutoff → is_short e ≡ true
start_of_short e kind low = grind (arith, nat_tests)

short_not_long : (e : Entry) → e.size < mini_cutoff → is_long e ≡ false
short_not_long e low = grind (arith, nat_tests)

long_not_short : (e : Entry) → mini_cutoff ≤ e.size → is_short e ≡ false
long_not_short e up = grind (arith, nat_tests)

other_not_long : (e : Entry) → (e.kind ≡ kind_stream → ⊥) → is_long e ≡ false
other_not_long e unlike = grind (arith, nat_tests)

other_not_short : (e : Entry) → (e.kind ≡ kind_stream → ⊥) → is_short e ≡ false
other_not_short e unlike = grind (arith, nat_tests)

starts_here : (is : Entry → Bool) (t : SectorTables) (id : ℕ) (ids : List ℕ) (e : Entry) (b : Bool) → slice_get t.entries id ≡ Some e → is e ≡ b
    → starts_where is t.entries (id ∷ ids) ≡ (if b then e.start ∷ [] else []) ++ starts_where is t.entries ids
starts_here is t id ids e b found test =
    ap (λ o. start_where is o ++ starts_where is t.entries ids) found ∙ ap (λ x. (if x then e.start ∷ [] else []) ++ starts_where is t.entries ids) test

-- the chains that are counted are those that the entries have
pub long_streams : (t : SectorTables) (ids sectors minis streams : List ℕ) → EntriesHave t ids sectors minis → ChainsFrom t.fat (starts_where is_long t.entries ids) streams → streams ≡ sectors
long_streams t [] sectors minis streams have chains = chains ∙ sym have.0
long_streams t (id ∷ ids) sectors minis streams (own, rest, own_minis, rest_minis, h, later, is, minis_is) chains = ⊎_elim
    (λ kind. ⊎_elim
    (λ up.
    let long = h.long kind.1 up.1 in
    let start = starts_here is_long t id ids h.entry true h.found (start_of_long h.entry kind.1 up.1) in
    let (first, others, one, more, whole) = (subst (λ ss. ChainsFrom t.fat ss streams) start chains) in
    whole ∙ ap (λ l. l ++ others) (one_chain t.fat h.entry.start first own one long.1.chain)
    ∙ ap (λ l. own ++ l) (long_streams t ids rest rest_minis others later more) ∙ sym is)
    (λ low.
    let short = h.short kind.1 low.1 in
    let start = starts_here is_long t id ids h.entry false h.found (short_not_long h.entry low.1) in
    long_streams t ids rest rest_minis streams later (subst (λ ss. ChainsFrom t.fat ss streams) start chains) ∙ ap (λ l. l ++ rest) (sym short.0) ∙ sym is)
    (leb_tells mini_cutoff h.entry.size))
    (λ other.
    let none = h.other other.1 in
    let start = starts_here is_long t id ids h.entry false h.found (other_not_long h.entry other.1) in
    long_streams t ids rest rest_minis streams later (subst (λ ss. ChainsFrom t.fat ss streams) start chains) ∙ ap (λ l. l ++ rest) (sym none.0) ∙ sym is)
    (eqb_tells h.entry.kind kind_stream)

pub short_streams : (t : SectorTables) (ids sectors minis streams : List ℕ) → EntriesHave t ids sectors minis → ChainsFrom t.mini_fat (starts_where is_short t.entries ids) streams → streams ≡ minis
short_streams t [] sectors minis streams have chains = chains ∙ sym have.1
short_streams t (id ∷ ids) sectors minis streams (own, rest, own_minis, rest_minis, h, later, is, minis_is) chains = ⊎_elim
    (λ kind. ⊎_elim
    (λ up.
    let long = h.long kind.1 up.1 in
    let start = starts_here is_short t id ids h.entry false h.found (long_not_short h.entry up.1) in
    short_streams t ids rest rest_minis streams later (subst (λ ss. ChainsFrom t.mini_fat ss streams) start chains) ∙ ap (λ l. l ++ rest_minis) (sym long.0) ∙ sym minis_is)
    (λ low.
    let short = h.short kind.1 low.1 in
    let start = starts_here is_short t id ids h.entry true h.found (start_of_short h.entry kind.1 low.1) in
    let (first, others, one, more, whole) = (subst (λ ss. ChainsFrom t.mini_fat ss streams) start chains) in
    whole ∙ ap (λ l. l ++ others) (one_chain t.mini_fat h.entry.start first own_minis one short.1.chain)
    ∙ ap (λ l. own_minis ++ l) (short_streams t ids rest rest_minis others later more) ∙ sym minis_is)
    (leb_tells mini_cutoff h.entry.size))
    (λ other.
    let none = h.other other.1 in
    let start = starts_here is_short t id ids h.entry false h.found (other_not_short h.entry other.1) in
    short_streams t ids rest rest_minis streams later (subst (λ ss. ChainsFrom t.mini_fat ss streams) start chains) ∙ ap (λ l. l ++ rest_minis) (sym none.1) ∙ sym minis_is)
    (eqb_tells h.entry.kind kind_stream)

-- none serves two uses just where each is counted once at most
unshared_at : (uses : List ℕ) (ns : List ℕ) → filter (is_shared uses) ns ≡ [] → AllByRecursion (λ n. times n uses ≤ 1) ns
unshared_at uses [] none = tt
unshared_at uses (n ∷ ns) none = ⊎_elim
    (λ two. let test : is_shared uses n ≡ true = two.0 in
    let wrong : n ∷ filter (is_shared uses) ns ≡ [] = sym (ap (λ b. cond b (n ∷ filter (is_shared uses) ns) (filter (is_shared uses) ns)) test) ∙ none in absurd (cc))
    (λ one. let test : is_shared uses n ≡ false = one.0 in
    (omega (arith, one.1), unshared_at uses ns (sym (ap (λ b. cond b (n ∷ filter (is_shared uses) ns) (filter (is_shared uses) ns)) test) ∙ none)))
    (leb_tells 2 (times n uses))

range_at : (P : ℕ → Type 0) (a len n : ℕ) → AllByRecursion P (range_with_len a len) → a ≤ n → n < a + len → P n
range_at P a zero n all low high = absurd (omega (arith, low, high))
range_at P a (suc len) n all low high = ⊎_elim
    (λ same. subst P (sym same.1) all.0)
    (λ other. range_at P (a + 1) len n all.1 (omega (arith, low, other.1)) (omega (arith, high)))
    (eqb_tells n a)

pub once_below : (count : ℕ) (uses : List ℕ) → shared count uses ≡ [] → (n : ℕ) → n < count → times n uses ≤ 1
once_below count uses none n below = range_at (λ k. times k uses ≤ 1) 0 count n (unshared_at uses (range_with_len 0 count) none) (omega arith) (omega (arith, below))

pub none_shared : (count : ℕ) (uses : List ℕ) → ((n : ℕ) → times n uses ≤ 1) → shared count uses ≡ []
none_shared count uses once = each (range_with_len 0 count)
  where
    each : (ns : List ℕ) → filter (is_shared uses) ns ≡ []
    each [] = refl
    each (n ∷ ns) =
        let few : times n uses ≤ 1 = once n in
        let test : nat_le 2 (times n uses) ≡ false = grind arith in
        ap (λ b. cond b (n ∷ filter (is_shared uses) ns) (filter (is_shared uses) ns)) test ∙ each ns

no_mark : (count n : ℕ) → mark (replicate count false) n ≡ 0
no_mark zero n = refl
no_mark (suc count) zero = refl
no_mark (suc count) (suc n) = no_mark count n

absent : (uses : List ℕ) (end n : ℕ) → AllByRecursion (λ k. k < end) uses → end ≤ n → times n uses ≡ 0
absent [] end n all over = refl
absent (k ∷ uses) end n all over = ⊎_elim
    (λ same. absurd (omega (arith, same.1, all.0, over)))
    (λ other. omega (arith, times_other n k uses other.1, absent uses end n all.1 over))
    (eqb_tells n k)

pub can_take : (count : ℕ) (uses : List ℕ) → AllByRecursion (λ n. n < count) uses → ((n : ℕ) → n < count → times n uses ≤ 1) → CanTake uses (replicate count false)
can_take count uses below once = record {
  there = subst (λ k. AllByRecursion (λ n. n < k) uses) (sym (length-replicate count false)) below;
  once = λ n. ⊎_elim
      (λ out. omega (arith, absent uses count n below out.1, no_mark count n))
      (λ inside. omega (arith, once n inside.1, no_mark count n))
      (leb_tells count n);
}

pub taken_once : (count : ℕ) (uses : List ℕ) → CanTake uses (replicate count false) → (n : ℕ) → times n uses ≤ 1
taken_once count uses can n = omega (arith, can.once n)

chain_below : (table : List ℕ) (start : ℕ) (ids : List ℕ) → Chain table start ids → AllByRecursion (λ n. n < min (length table) (greatest_regular + 1)) ids
chain_below table start [] chain = tt
chain_below table start (x ∷ ids) (is, regular, next, found, rest) =
    let within = slice_get_within table start next found in
    (omega (arith, is, regular, within), chain_below table next ids rest)

all_less : (a b : ℕ) (xs : List ℕ) → a ≤ b → AllByRecursion (λ n. n < a) xs → AllByRecursion (λ n. n < b) xs
all_less a b [] low all = tt
all_less a b (x ∷ xs) low all = (omega (arith, low, all.0), all_less a b xs low all.1)

have_below : (t : SectorTables) (ids sectors minis : List ℕ) → EntriesHave t ids sectors minis
    → AllByRecursion (λ n. n < min (length t.fat) (greatest_regular + 1)) sectors × AllByRecursion (λ n. n < min (length t.mini_fat) (greatest_regular + 1)) minis
have_below t [] sectors minis (none, no_minis) =
    (subst (AllByRecursion (λ n. n < min (length t.fat) (greatest_regular + 1))) (sym none) tt, subst (AllByRecursion (λ n. n < min (length t.mini_fat) (greatest_regular + 1))) (sym no_minis) tt)
have_below t (id ∷ ids) sectors minis (own, rest, own_minis, rest_minis, h, later, is, minis_is) =
    let P : ℕ → Type 0 = λ n. n < min (length t.fat) (greatest_regular + 1) in
    let Q : ℕ → Type 0 = λ n. n < min (length t.mini_fat) (greatest_regular + 1) in
    let more = have_below t ids rest rest_minis later in
    let here : AllByRecursion P own × AllByRecursion Q own_minis = ⊎_elim
    (λ kind. ⊎_elim
    (λ up. let long = h.long kind.1 up.1 in (chain_below t.fat h.entry.start own long.1.chain, subst (AllByRecursion Q) (sym long.0) tt))
    (λ low. let short = h.short kind.1 low.1 in (subst (AllByRecursion P) (sym short.0) tt, chain_below t.mini_fat h.entry.start own_minis short.1.chain))
    (leb_tells mini_cutoff h.entry.size))
    (λ other. let none = h.other other.1 in (subst (AllByRecursion P) (sym none.0) tt, subst (AllByRecursion Q) (sym none.1) tt))
    (eqb_tells h.entry.kind kind_stream) in
    (subst (AllByRecursion P) (sym is) (all_append P own rest here.0 more.0), subst (AllByRecursion Q) (sym minis_is) (all_append Q own_minis rest_minis here.1 more.1))

module _ (t : SectorTables) (count : ℕ) (fs ds tables ids : List ℕ) where
  pub judged_from_none : count ≤ length t.fat → length t.fat ≤ count → unmarked t.fat (fs ++ ds) ≡ [] → AreBroken t ids [] → AllByRecursion (λ n. n < count) tables
      → (streams minis : List ℕ) → ChainsFrom t.fat (starts_where is_long t.entries ids) streams → shared count (tables ++ streams) ≡ []
      → ChainsFrom t.mini_fat (starts_where is_short t.entries ids) minis → shared (min (length t.mini_fat) (greatest_regular + 1)) minis ≡ []
      → Judged t count fs ds tables ids
  judged_from_none covers whole marked unbroken below streams minis chains apart mini_chains minis_apart =
      let used = all_front (λ n. (next : ℕ) × (slice_get t.fat n ≡ Some next) × (next ≢ free)) fs ds (marked_used t.fat (fs ++ ds) marked) in
      let have = whole_have t ids unbroken in
      let inside = have_below t ids have.0 have.1 have.2 in
      let long = long_streams t ids have.0 have.1 streams have.2 chains in
      let short = short_streams t ids have.0 have.1 minis have.2 mini_chains in
      let all = all_append (λ n. n < count) tables have.0 below (all_less (min (length t.fat) (greatest_regular + 1)) count have.0 (omega (arith, whole)) inside.0) in
      record {
        covers = covers;
        fat_used = used.0;
        difat_used = used.1;
        sectors = have.0;
        minis = have.1;
        have = have.2;
        can = can_take count (tables ++ have.0) all (once_below count (tables ++ have.0) (subst (λ l. shared count (tables ++ l) ≡ []) long apart));
        can_minis = can_take (length t.mini_fat) have.1 (all_less (min (length t.mini_fat) (greatest_regular + 1)) (length t.mini_fat) have.1 (omega arith) inside.1)
            (λ n below_it. ⊎_elim
            (λ out. omega (arith, absent have.1 (min (length t.mini_fat) (greatest_regular + 1)) n inside.1 out.1))
            (λ within. once_below (min (length t.mini_fat) (greatest_regular + 1)) have.1 (subst (λ l. shared (min (length t.mini_fat) (greatest_regular + 1)) l ≡ []) short minis_apart) n within.1)
            (leb_tells (min (length t.mini_fat) (greatest_regular + 1)) n));
      }

  module _ (j : Judged t count fs ds tables ids) where
    pub judged_marked : unmarked t.fat (fs ++ ds) ≡ []
    judged_marked = used_marked t.fat (fs ++ ds) (all_append (λ n. (next : ℕ) × (slice_get t.fat n ≡ Some next) × (next ≢ free)) fs ds j.fat_used j.difat_used)

    pub judged_whole : (found : List ℕ) → AreBroken t ids found → found ≡ []
    judged_whole found broken = have_whole t ids found j.sectors j.minis j.have broken

    pub judged_apart : (streams : List ℕ) → ChainsFrom t.fat (starts_where is_long t.entries ids) streams → shared count (tables ++ streams) ≡ []
    judged_apart streams chains =
        subst (λ l. shared count (tables ++ l) ≡ []) (sym (long_streams t ids j.sectors j.minis streams j.have chains)) (none_shared count (tables ++ j.sectors) (taken_once count (tables ++ j.sectors) j.can))

    pub judged_minis : (minis : List ℕ) → ChainsFrom t.mini_fat (starts_where is_short t.entries ids) minis → shared (min (length t.mini_fat) (greatest_regular + 1)) minis ≡ []
    judged_minis minis chains =
        subst (λ l. shared (min (length t.mini_fat) (greatest_regular + 1)) l ≡ []) (sym (short_streams t ids j.sectors j.minis minis j.have chains))
        (none_shared (min (length t.mini_fat) (greatest_regular + 1)) j.minis (taken_once (length t.mini_fat) j.minis j.can_minis))

own_one : (table : List ℕ) (start : ℕ) (own ids : List ℕ) → ChainOrNone table start own → ChainOrNone table start ids → own ≡ ids
own_one table start own ids one (inl chain) = one_chain table start own ids one chain
own_one table start own ids (inl chain) (inr none) = absurd (none.1 own chain)
own_one table start own ids (inr none) (inr also) = none.0 ∙ sym also.0

-- there is one list of the chains, and one of the entries that are broken
pub chains_one : (table starts xs ys : List ℕ) → ChainsFrom table starts xs → ChainsFrom table starts ys → xs ≡ ys
chains_one table [] xs ys first second = first ∙ sym second
chains_one table (start ∷ starts) xs ys (own, rest, one, more, is) (own', rest', one', more', is') =
    is ∙ ap (λ l. l ++ rest) (own_one table start own own' one one') ∙ ap (λ l. own' ++ l) (chains_one table starts rest rest' more more') ∙ sym is'

pub broken_one : (t : SectorTables) (ids xs ys : List ℕ) → AreBroken t ids xs → AreBroken t ids ys → xs ≡ ys
broken_one t [] xs ys first second = first ∙ sym second
broken_one t (id ∷ ids) xs ys (inl (whole, rest)) (inl (also, others)) = broken_one t ids xs ys rest others
broken_one t (id ∷ ids) xs ys (inl (whole, rest)) (inr (broken, r, is, later)) = absurd (broken whole)
broken_one t (id ∷ ids) xs ys (inr (broken, r, is, later)) (inl (whole, rest)) = absurd (broken whole)
broken_one t (id ∷ ids) xs ys (inr (broken, r, is, later)) (inr (other, r', is', later')) = is ∙ ap (λ l. id ∷ l) (broken_one t ids r r' later later') ∙ sym is'
