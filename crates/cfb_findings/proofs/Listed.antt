-- Lists of uses: chains from starts, starts of streams, and parts that are shared.
use Rattle.std.proofs.Common.{⊎_elim, ◌≡◌, ◌∙◌, ℕ, zero, suc, ◌+◌, ◌<◌, ◌≤◌, Bool, true, false, List, [], ◌∷◌, ◌++◌, length, get_or, take, inl, inr, refl, sym, ap, subst, append_assoc, arith}
use Rattle.std.specs.Prelude.{filter, nat_le, slice_get, slice_index, slice_index_or, if◌then◌else◌, Err, IfOk, None, Ok, Option, Result, Some, Vec}
use Rattle.std.specs.declared.alloc.Global.{Global}
use Rattle.std.proofs.lemmas.Bool.Decides.{leb_tells}
use Rattle.std.proofs.lemmas.Option.{slice_get_past, slice_get_within}
use Rattle.cfb_medium.specs.declared.error.Error.{Error}
use Rattle.std.specs.List.{flat_map, range_with_len}
use Rattle.std.proofs.lemmas.List.{append-nil, take_more}
use Rattle.std.proofs.lemmas.Grind.{flat_map-append}
use Rattle.cfb_tree.specs.Directory.{Entry}
use Rattle.cfb_soundness.specs.Entries.{AreTreeEntries}
use Rattle.cfb_soundness.specs.Marks.{times}
use Rattle.cfb_soundness.proofs.Taking.{times_append}
use Rattle.cfb_findings.specs.Counted.{CountsMatchUses, FollowLinks}
use Rattle.cfb_findings.specs.Findings.{is_shared, shared, start_where, starts_where, ChainOrNone, ChainsFrom, HasTree}
use Rattle.cfb_findings.proofs.Counting.{chain_follows, follow_both, same_counts}
use Rattle.cfb_findings.proofs.Found.{filter_first}
use Rattle.cfb_findings.proofs.Linking.{entry_at}

own_follows : (links : List ℕ) (start : ℕ) (own : List ℕ) → ChainOrNone links start own → FollowLinks links own
own_follows links start own (inl chain) = chain_follows links start own chain
own_follows links start own (inr none) = subst (FollowLinks links) (sym none.0) (λ n m at on. omega arith)

chains_more : (links : List ℕ) (xs : List ℕ) (start : ℕ) (all own : List ℕ) → ChainsFrom links xs all → ChainOrNone links start own → ChainsFrom links (xs ++ (start ∷ [])) (all ++ own)
chains_more links [] start all own none last = (own, [], last, refl, ap (λ a. a ++ own) none ∙ sym (append-nil own))
chains_more links (x ∷ xs) start all own (first, rest, here, more, is) last =
    (first, rest ++ own, here, chains_more links xs start rest own more last, ap (λ a. a ++ own) is ∙ append_assoc first rest own)

-- the chains from these starts are counted
pub record ChainsCounted (links starts counts : List ℕ) : Type 0 where
  pub all : List ℕ
  pub chains : ChainsFrom links starts all
  pub follow : FollowLinks links all
  pub counted : CountsMatchUses all counts

pub chains_none : (links cs : List ℕ) → CountsMatchUses [] cs → ChainsCounted links [] cs
chains_none links cs so = record { all = []; chains = refl; follow = λ n m at on. omega arith; counted = so }

pub chains_step : (links starts cs ds : List ℕ) (i : ℕ) → i < length starts → ChainsCounted links (take i starts) cs
    → ((before : List ℕ) → FollowLinks links before → CountsMatchUses before cs → (own : List ℕ) × ChainOrNone links (get_or starts i 0) own × CountsMatchUses (own ++ before) ds)
    → ChainsCounted links (take (i + 1) starts) ds
chains_step links starts cs ds i below c step =
    let (own, is, so) = step c.all c.follow c.counted in
    record {
      all = c.all ++ own;
      chains = subst (λ ss. ChainsFrom links ss (c.all ++ own)) (sym (take_more starts i 0 below)) (chains_more links (take i starts) (get_or starts i 0) c.all own c.chains is);
      follow = follow_both links c.all own c.follow (own_follows links (get_or starts i 0) own is);
      counted = same_counts (own ++ c.all) (c.all ++ own) ds (λ n. omega (arith, times_append n own c.all, times_append n c.all own)) so;
    }

index_same : (cs : List ℕ) (n v : ℕ) → n < length cs → v ≡ slice_index_or cs n v → slice_index cs n ≡ v
index_same [] n v below is = absurd (omega (arith, below))
index_same (c ∷ cs) zero v below is = sym is
index_same (c ∷ cs) (suc n) v below is = index_same cs n v (omega (arith, below)) is

pub unshared : (uses cs : List ℕ) (n v : ℕ) → CountsMatchUses uses cs → n < length cs → v ≡ slice_index_or cs n v → v < 2 → false ≡ is_shared uses n
unshared uses cs n v so below is few =
    let less : times n uses < 2 = omega (arith, so n below, index_same cs n v below is, few) in
    let test : nat_le 2 (times n uses) ≡ false = grind arith in
    sym test

pub is_shared_so : (uses cs : List ℕ) (n v : ℕ) → CountsMatchUses uses cs → n < length cs → v ≡ slice_index_or cs n v → 2 ≤ v → true ≡ is_shared uses n
is_shared_so uses cs n v so below is two =
    let more : 2 ≤ times n uses = omega (arith, so n below, index_same cs n v below is, two) in
    let test : nat_le 2 (times n uses) ≡ true = grind arith in
    sym test

filter_range : (p : ℕ → Bool) (a n j : ℕ) → a + n ≡ j → filter p (range_with_len a (suc n)) ≡ filter p (range_with_len a n) ++ filter p (j ∷ [])
filter_range p a zero j is = let same : a ≡ j = omega (arith, is) in ap (λ k. filter p (k ∷ [])) same
filter_range p a (suc n) j is =
    filter_first p a (range_with_len (a + 1) (suc n))
    ∙ ap (λ l. filter p (a ∷ []) ++ l) (filter_range p (a + 1) n j (omega (arith, is)))
    ∙ sym (append_assoc (filter p (a ∷ [])) (filter p (range_with_len (a + 1) n)) (filter p (j ∷ [])))
    ∙ ap (λ l. l ++ filter p (j ∷ [])) (sym (filter_first p a (range_with_len (a + 1) n)))

pub shared_more : (uses old new : List ℕ) (i : ℕ) → old ≡ shared i uses → new ≡ old ++ (if is_shared uses i then i ∷ [] else []) → new ≡ shared (i + 1) uses
shared_more uses old new i so found =
    let more : suc i ≡ i + 1 = omega arith in
    found ∙ ap (λ l. l ++ filter (is_shared uses) (i ∷ [])) so ∙ sym (filter_range (is_shared uses) 0 i i (omega arith))
    ∙ ap (λ k. shared k uses) more

pub starts_more : (is : Entry → Bool) (directory : List Entry) (ids old new : List ℕ) (i : ℕ) → i < length ids → old ≡ starts_where is directory (take i ids)
    → new ≡ old ++ start_where is (slice_get directory (get_or ids i 0)) → new ≡ starts_where is directory (take (i + 1) ids)
starts_more is directory ids old new i below so found =
    let x = get_or ids i 0 in
    let f : ℕ → List ℕ = λ id. start_where is (slice_get directory id) in
    found ∙ ap (λ l. l ++ f x) so
    ∙ ap (λ l. starts_where is directory (take i ids) ++ l) (sym (append-nil (f x)))
    ∙ sym (flat_map-append f (take i ids) (x ∷ []))
    ∙ ap (flat_map f) (sym (take_more ids i 0 below))

pub tree_is : (directory : List Entry) (found ids : List ℕ) → AreTreeEntries directory found → HasTree directory ids → found ≡ ids
tree_is directory found ids all t = all t.root t.children ids t.content t.root_found t.siblings t.holds t.once

-- five lists, one after the other
pub five_before : (a b c d e a' b' c' d' e' before cs : List ℕ) → a ≡ a' → b ≡ b' → c ≡ c' → d ≡ d' → e ≡ e'
    → CountsMatchUses (a ++ (b ++ (c ++ (d ++ (e ++ before))))) cs → CountsMatchUses ((a' ++ b' ++ c' ++ d' ++ e') ++ before) cs
five_before a b c d e a' b' c' d' e' before cs a_is b_is c_is d_is e_is so = same_counts (a ++ (b ++ (c ++ (d ++ (e ++ before))))) ((a' ++ b' ++ c' ++ d' ++ e') ++ before) cs
    (λ n. omega (
      arith,
      times_append n a (b ++ (c ++ (d ++ (e ++ before)))),
      times_append n b (c ++ (d ++ (e ++ before))),
      times_append n c (d ++ (e ++ before)),
      times_append n d (e ++ before),
      times_append n e before,
      times_append n (a' ++ b' ++ c' ++ d' ++ e') before,
      times_append n (a' ++ b' ++ c' ++ d') e',
      times_append n (a' ++ b' ++ c') d',
      times_append n (a' ++ b') c',
      times_append n a' b',
      ap (times n) a_is,
      ap (times n) b_is,
      ap (times n) c_is,
      ap (times n) d_is,
      ap (times n) e_is,
    ))
    so

-- what is noted of a part
pub noted : (old new : List ℕ) (part : ℕ) (b : Bool) → new ≡ old ++ (part ∷ []) → true ≡ b → new ≡ old ++ (if b then part ∷ [] else [])
noted old new part b added is = added ∙ ap (λ x. old ++ (if x then part ∷ [] else [])) is

pub not_noted : (old : List ℕ) (part : ℕ) (b : Bool) → false ≡ b → old ≡ old ++ (if b then part ∷ [] else [])
not_noted old part b is = sym (append-nil old) ∙ ap (λ x. old ++ (if x then part ∷ [] else [])) is

-- where the chain of an entry starts
pub start_none : (is : Entry → Bool) (directory : List Entry) (id : ℕ) → (id < length directory → ⊥) → [] ≡ start_where is (slice_get directory id)
start_none is directory id out = ⊎_elim
    (λ past. ap (start_where is) (sym (slice_get_past directory id past.1)))
    (λ below. absurd (out below.1))
    (leb_tells (length directory) id)

pub start_not : (is : Entry → Bool) (o : Option Entry) (e : Entry) → o ≡ Some e → false ≡ is e → [] ≡ start_where is o
start_not is o e found no_start = ap (λ b. if b then e.start ∷ [] else []) no_start ∙ sym (ap (start_where is) found)

pub start_so : (is : Entry → Bool) (o : Option Entry) (e : Entry) → o ≡ Some e → true ≡ is e → (e.start ∷ []) ≡ start_where is o
start_so is o e found a_start = ap (λ b. if b then e.start ∷ [] else []) a_start ∙ sym (ap (start_where is) found)

-- a table that is copied, entry by entry
pub take_found : (xs old new : List ℕ) (i x : ℕ) → slice_get xs i ≡ Some x → old ≡ take i xs → new ≡ old ++ (x ∷ []) → new ≡ take (i + 1) xs
take_found xs old new i x found so added =
    let below : i < length xs = slice_get_within xs i x found in
    added ∙ ap (λ l. l ++ (x ∷ [])) so ∙ ap (λ y. take i xs ++ (y ∷ [])) (sym (entry_at xs i 0 x found)) ∙ sym (take_more xs i 0 below)

pub take_whole : (xs : List ℕ) (i : ℕ) → slice_get xs i ≡ None → take i xs ≡ xs
take_whole [] zero none = refl
take_whole [] (suc i) none = refl
take_whole (x ∷ xs) zero none = absurd (cc)
take_whole (x ∷ xs) (suc i) none = ap (λ l. x ∷ l) (take_whole xs i none)

-- what is found among the uses that were counted
pub found_among : (r : Result (Vec ℕ Global) Error) (n m : ℕ) (links fat starts wanted tables all : List ℕ) → links ≡ fat → starts ≡ wanted → n ≡ m
    → ChainsFrom links starts all → IfOk r (λ found. found.items ≡ shared n (tables ++ all))
    → IfOk r (λ found. (streams : List ℕ) × ChainsFrom fat wanted streams × (found.items ≡ shared m (tables ++ streams)))
found_among (Ok v) n m links fat starts wanted tables all links_is starts_is n_is chains is =
    (all, subst (λ ss. ChainsFrom fat ss all) starts_is (subst (λ t. ChainsFrom t starts all) links_is chains), is ∙ ap (λ k. shared k (tables ++ all)) n_is)
found_among (Err e) n m links fat starts wanted tables all links_is starts_is n_is chains is = tt
