-- The tree that a live file means after an entry was added, of an object without content.
use Rattle.std.proofs.Common.{◌≡◌, ℕ, ◌<◌, ◌⊎◌, inl, inr, true, false, List, [], ◌∷◌, length, take, zero, suc, ap, sym, subst, ◌∙◌, ⊎_elim, arith}
use Rattle.std.specs.Prelude.{nat_eq, slice_get, slice_index_or, IfSome, Option, Some}
use Rattle.std.specs.List.{AllByRecursion}
use Rattle.std.proofs.lemmas.Bool.Decides.{eqb_tells}
use Rattle.cfb_chains.specs.Changes.{IsNotIn}
use Rattle.cfb_sectors.specs.Sectors.{end_of_chain}
use Rattle.cfb_tree.specs.Directory.{kind_stream, Entry, Siblings}
use Rattle.cfb_tree.specs.Names.{CaseTable}
use Rattle.cfb_tree.specs.Paths.{Path}
use Rattle.cfb_tree.specs.Tree.{Tree}
use Rattle.cfb_tree.proofs.OneContent.{Some_same}
use Rattle.cfb_siblings.specs.Changes.{HoldsOneMore, IsApart}
use Rattle.cfb_siblings.specs.Reading.{ReadBy}
use Rattle.cfb_directory.specs.Children.{AddsAt}
use Rattle.cfb_ownership.specs.Held.{mini_joined, mini_places_of, OwnerHasStream, IsStreamAmong, OwnersHoldTree}
use Rattle.cfb_ownership.specs.LiveInvariant.{LiveFileInvariant}
use Rattle.cfb_ownership.specs.LiveFile.{LiveFile}
use Rattle.cfb_ownership.specs.Owners.{stream_owner, Owners, OwnsNothing}
use Rattle.cfb_ownership.proofs.HoldsById.{each_part, holds_with, IsPart}
use Rattle.cfb_ownership.proofs.KeysOfParts.{IsOneOf}
use Rattle.cfb_ownership.proofs.UsesOfEntries.{all_from, all_one, one_not_none}
use Rattle.cfb_tree_edits.proofs.Carried.{Carries}
use Rattle.cfb_tree_edits.proofs.Changed.{moved_stream}
use Rattle.cfb_tree_edits.proofs.Streams.{bytes_from, no_bytes, reads, reads_means}
use Rattle.cfb_siblings.proofs.Coloring.{root_apart}

pub none_of : (xs : List ℕ) (n : ℕ) → (IsOneOf xs n → ⊥) → IsNotIn xs n
none_of [] n never k below same = absurd (omega (arith, below))
none_of (x ∷ xs) n never zero below same = never (inl same)
none_of (x ∷ xs) n never (suc k) below same = none_of xs n (λ one. never (inr one)) k (omega (arith, below)) same

pub apart_or : (n : ℕ) (xs : List ℕ) → IsApart n xs ⊎ IsOneOf xs n
apart_or n [] = inl tt
apart_or n (x ∷ xs) = ⊎_elim (λ same. inr (inl (sym same.1))) (λ differ. ⊎_elim (λ rest. inl (differ.0, rest)) (λ one. inr (inr one)) (apart_or n xs)) (eqb_tells n x)

pub one_apart : (xs : List ℕ) (n : ℕ) → IsOneOf xs n → IsApart n xs → ⊥
one_apart [] n one apart = one
one_apart (x ∷ xs) n (inl same) apart = let test = apart.0 in let wrong : nat_eq n x ≡ true = grind (arith, same) in let never : true ≡ false = sym wrong ∙ test in absurd (cc)
one_apart (x ∷ xs) n (inr later) apart = one_apart xs n later apart.1

module _ (s t : LiveFile) (who now : Owners) (letters : CaseTable) (tree later : Tree) (h : OwnersHoldTree s who letters tree) (c : Carries s t who now) (root : Entry) (kept : LiveFileInvariant t now root)
    (e : Entry) (path : Path) (id : ℕ) (more : HoldsOneMore letters (ReadBy (reads s who)) s.entries t.entries later h.ids path id) (adds : AddsAt s.entries t.entries e id) (small : e.size ≡ 0) (starts : e.kind ≡ kind_stream → e.start ≡ end_of_chain) where
  old_part : (k : ℕ) → IsOneOf h.ids k → IsPart s.entries (OwnerHasStream s who) k
  old_part k one = all_one (IsPart s.entries (OwnerHasStream s who)) h.ids k (each_part s.entries (OwnerHasStream s who) tree.content h.children h.ids h.holds) one

  is_new : IsOneOf h.ids id → ⊥
  is_new one =
      let part = old_part id one in
      let unused = adds.unused part.0 part.1 in
      ⊎_elim (λ storage. omega (arith, unused, storage)) (λ stream. let kind = stream.0 in omega (arith, unused, kind)) part.2

  idle : OwnsNothing who (stream_owner id)
  idle = h.unused id (λ among. among.0 (none_of h.ids id is_new))

  old_zero : IsOneOf h.ids 0 → ⊥
  old_zero one = one_apart h.ids 0 one (root_apart h.ids h.once)

  new_zero : IsOneOf more.holds.ids 0 → ⊥
  new_zero one = one_apart more.holds.ids 0 one (root_apart more.holds.ids more.holds.once)

  -- where an entry of the new tree comes from
  from : (k : ℕ) → IsOneOf more.holds.ids k → (k ≡ id) ⊎ IsOneOf h.ids k
  from k one =
      ⊎_elim
      (λ same. inl same.1)
      (λ differ. inr (⊎_elim
      (λ apart. absurd (one_apart (0 ∷ more.holds.ids) k (inr one) ((more.all_are k).1 (differ.0, apart))))
      (λ old. ⊎_elim (λ zero_is. absurd (new_zero (subst (IsOneOf more.holds.ids) (sym zero_is) one))) (λ was. was) old)
      (apart_or k (0 ∷ h.ids))))
      (eqb_tells k id)

  -- and each of the old one is in it
  into : (k : ℕ) → IsOneOf h.ids k → IsOneOf more.holds.ids k
  into k one =
      ⊎_elim
      (λ apart. absurd (one_apart (0 ∷ h.ids) k (inr one) ((more.all_are k).0 apart).1))
      (λ new. ⊎_elim (λ zero_is. absurd (old_zero (subst (IsOneOf h.ids) (sym zero_is) one))) (λ is. is) new)
      (apart_or k (0 ∷ more.holds.ids))

  abbrev IsStreamStill : ℕ → Type 0
  IsStreamStill k = (f : Entry) → slice_get t.entries k ≡ Some f → f.kind ≡ kind_stream → (content : List ℕ) × OwnerHasStream t now k f content × (content ≡ bytes_from s who f.start f.size)

  -- a stream that was made has no bytes
  fresh : IsStreamStill id
  fresh f found kind =
      let at = adds.entry in
      let same : at.0 ≡ f = Some_same (sym at.1 ∙ found) in
      let none : f.size ≡ 0 = ap (λ (x : Entry). x.size) (sym same) ∙ at.2.size ∙ small in
      let kinds : e.kind ≡ kind_stream = sym at.2.kind ∙ ap (λ (x : Entry). x.kind) same ∙ kind in
      let start : f.start ≡ end_of_chain = ap (λ (x : Entry). x.start) (sym same) ∙ at.2.start ∙ starts kinds in
      let minis : now.minis (stream_owner id) ≡ [] = ap (λ m. m (stream_owner id)) c.minis ∙ idle.1 in
      let sectors : now.sectors (stream_owner id) ≡ [] = c.sectors (stream_owner id) (omega arith) ∙ idle.0 in (
        [],
        record {
          short = λ below. (
            sectors,
            record {
              start = start ∙ ap (λ l. slice_index_or l 0 end_of_chain) (sym minis);
              content_is = ap (λ n. take n (mini_joined t now (now.minis (stream_owner id)))) (sym none);
              whole = sym none;
              there = subst (λ n. AllByRecursion (λ p. p < length t.bytes) (take n (mini_places_of t now (now.minis (stream_owner id))))) (sym none) tt;
            },
          );
          long = λ up. absurd (omega (arith, none, up));
        },
        subst (λ n. [] ≡ bytes_from s who f.start n) (sym none) (no_bytes s who f.start),
      )

  each_still : (k : ℕ) → IsOneOf more.holds.ids k → IsStreamStill k
  each_still k one =
      ⊎_elim
      (λ same. subst IsStreamStill (sym same) fresh)
      (λ old f found kind.
      let part = old_part k old in
      let at = adds.others k part.0 (λ same. is_new (subst (IsOneOf h.ids) same old)) part.1 in
      let is : at.0 ≡ f = Some_same (sym at.1 ∙ found) in
      moved_stream s t who now letters tree h c k part.0 f part.2 (ap (λ (x : Entry). x.kind) (sym is) ∙ at.2.kind) (ap (λ (x : Entry). x.start) (sym is) ∙ at.2.start) (ap (λ (x : Entry). x.size) (sym is) ∙ at.2.size) kind)
      (from k one)

  was_among : (k : ℕ) → IsStreamAmong s.entries h.ids k → IsStreamAmong t.entries more.holds.ids k
  was_among k (among, kind) =
      ⊎_elim
      (λ apart. absurd (among (none_of h.ids k (λ one. one_apart h.ids k one apart))))
      (λ one.
      let part = old_part k one in
      let at = adds.others k part.0 (λ same. is_new (subst (IsOneOf h.ids) same one)) part.1 in (
        one_not_none more.holds.ids k (into k one),
        subst (λ (o : Option Entry). IfSome o (λ x. x.kind ≡ kind_stream)) (sym at.1) (at.2.kind ∙ subst (λ (o : Option Entry). IfSome o (λ x. x.kind ≡ kind_stream)) part.1 kind),
      ))
      (apart_or k h.ids)

  pub means_more : OwnersHoldTree t now letters later
  means_more =
      let new = more.holds in
      let root_is : new.root ≡ root = Some_same (sym new.root_found ∙ kept.root_found) in record {
        root = root;
        kept = kept;
        facts = ap (λ (x : Entry). x.facts) (sym root_is) ∙ new.facts;
        children = new.children;
        ids = new.ids;
        siblings = subst (λ (x : Entry). Siblings t.entries x.child new.children) root_is new.siblings;
        holds = holds_with t.entries (ReadBy (reads s who)) (OwnerHasStream t now) IsStreamStill
            (λ k x bytes found kind is_still is_read.
            let it = is_still x found kind in subst (OwnerHasStream t now k x) (it.2 ∙ sym (reads_means s who x.start x.size bytes is_read)) it.1)
            later.content new.children new.ids (all_from IsStreamStill new.ids each_still) new.holds;
        once = new.once;
        ordered = new.ordered;
        unused = λ k never.
            let nothing = h.unused k (λ among. never (was_among k among)) in (
              c.sectors (stream_owner k) (omega arith) ∙ nothing.0,
              ap (λ m. m (stream_owner k)) c.minis ∙ nothing.1,
            );
      }
