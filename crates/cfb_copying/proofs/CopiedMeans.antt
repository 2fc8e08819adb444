-- A copy holds the tree that the file holds.
use Rattle.std.proofs.Common.{◌≡◌, ℕ, zero, suc, ◌+◌, ◌*◌, ◌<◌, ◌≤◌, false, true, List, [], ◌∷◌, length, take, drop, refl, ap, sym, subst, ◌∙◌, arith}
use Rattle.std.specs.Prelude.{nat_eq, slice_get, slice_range, Some, IfSome}
use Rattle.std.specs.List.{flat_map, range_with_len, AllByRecursion, IsDistinct}
use Rattle.cfb_medium.specs.Numbers.{numbers}
use Rattle.cfb_medium.specs.Versions.{sector_len}
use Rattle.cfb_medium.specs.declared.version.Version.{Version}
use Rattle.cfb_sectors.specs.Sectors.{places, sector_start}
use Rattle.cfb_chains.specs.Behind.{AreWhole}
use Rattle.cfb_chains.specs.Owned.{OwnDisjointChains}
use Rattle.cfb_chains.proofs.ChainWriting.{length-joined}
use Rattle.cfb_tree.specs.Names.{CaseTable}
use Rattle.cfb_tree.specs.Tree.{Tree}
use Rattle.cfb_tree.specs.Directory.{kind_stream, Entry}
use Rattle.cfb_ownership.specs.Held.{OwnerHasStream, IsStreamAmong, OwnersHoldTree}
use Rattle.cfb_ownership.specs.LiveInvariant.{LiveFileInvariant}
use Rattle.cfb_ownership.specs.LiveFile.{LiveFile}
use Rattle.cfb_ownership.specs.Owners.{first_of, mini_stream_owner, stream_owner, Owners}
use Rattle.cfb_tree.proofs.NamesRead.{all_append}
use Rattle.cfb_copying.specs.Copied.{color_then, IsFileCopied, IsLongAmong}
use Rattle.cfb_copying.specs.Making.{IsOneOf}
use Rattle.cfb_copying.proofs.Restarted.{holds_again, siblings_again, some_again}
use Rattle.cfb_copying.proofs.Tight.{one_is_not_none}

-- ---- bytes that lie in the file

range_there : (limit start count : ℕ) → start + count ≤ limit → AllByRecursion (λ p. p < limit) (range_with_len start count)
range_there limit start zero within = tt
range_there limit start (suc n) within = (omega (arith, within), range_there limit (start + 1) n (omega (arith, within)))

places_there : (v : Version) (bytes ids : List ℕ) → AreWhole v bytes ids → AllByRecursion (λ p. p < length bytes) (places v ids)
places_there v bytes [] whole = tt
places_there v bytes (n ∷ ids) whole =
    all_append (λ p. p < length bytes) (range_with_len (sector_start v n) (sector_len v)) (places v ids) (range_there (length bytes) (sector_start v n) (sector_len v) whole.0) (places_there v bytes ids whole.1)

all_taken : (P : ℕ → Type 0) (n : ℕ) (xs : List ℕ) → AllByRecursion P xs → AllByRecursion P (take n xs)
all_taken P zero xs all = tt
all_taken P (suc n) [] all = tt
all_taken P (suc n) (x ∷ xs) all = (all.0, all_taken P n xs all.1)

all_dropped : (P : ℕ → Type 0) (n : ℕ) (xs : List ℕ) → AllByRecursion P xs → AllByRecursion P (drop n xs)
all_dropped P zero xs all = all
all_dropped P (suc n) [] all = tt
all_dropped P (suc n) (x ∷ xs) all = all_dropped P n xs all.1

all_parts : (P : ℕ → Type 0) (xs minis : List ℕ) → AllByRecursion P xs → AllByRecursion P (flat_map (λ n. slice_range xs (64 * n) (64 * n + 64)) minis)
all_parts P xs [] all = tt
all_parts P xs (n ∷ minis) all = all_append P (slice_range xs (64 * n) (64 * n + 64)) (flat_map (λ m. slice_range xs (64 * m) (64 * m + 64)) minis) (all_taken P _ _ (all_dropped P _ _ all)) (all_parts P xs minis all)

-- each number of a list is one of it, and none is 0
pub among_all : (all rest : List ℕ) → ((n : ℕ) → IsOneOf rest n → IsOneOf all n) → AllByRecursion (λ k. nat_eq 0 k ≡ false) rest → AllByRecursion (λ n. (n ≡ 0 → ⊥) × IsOneOf all n) rest
among_all all [] within past = tt
among_all all (x ∷ rest) within past =
    ((not_zero, within x (zero, omega arith, refl)), among_all all rest (λ n one. within n (suc one.0, (let below = one.1 in omega (arith, below)), one.2)) past.1)
  where
    not_zero : x ≡ 0 → ⊥
    not_zero same = let wrong : nat_eq 0 x ≡ false = past.0 in let right : nat_eq 0 x ≡ true = ap (nat_eq 0) same in cc

module _ (s t : LiveFile) (who : Owners) (own : ℕ → List ℕ) (letters : CaseTable) (tree : Tree) (h : OwnersHoldTree s who letters tree) (c : IsFileCopied s who h.ids t own) where
  abbrev pub now : Owners
  now = record { sectors = own; minis = who.minis }

  same_mini_fat : t.mini_fat ≡ s.mini_fat
  same_mini_fat = c.mini_fat ∙ ap numbers c.same_mini_fat ∙ sym h.kept.mini_fat

  -- the mini stream has as many bytes
  pub same_room : length (own mini_stream_owner) * sector_len t.version ≡ length (who.sectors mini_stream_owner) * sector_len s.version
  same_room = sym (length-joined t.version t.bytes (own mini_stream_owner)) ∙ ap length c.same_mini_stream ∙ length-joined s.version s.bytes (who.sectors mini_stream_owner)

  abbrev root : Entry
  root = record h.root { start = first_of (own mini_stream_owner); color = color_then h.root; size = c.root_size }

  kept : LiveFileInvariant t now root
  kept = record {
    header = c.header;
    tables = c.tables;
    owned = c.owned;
    directory_at = c.directory_at;
    entries = c.entries;
    mini_fat_at = c.mini_fat_at;
    mini_fat = c.mini_fat;
    root_found = c.repairs.root (record h.root { start = first_of (own mini_stream_owner) }) (c.restarts.root h.root h.kept.root_found);
    root_kind = h.kept.root_kind;
    mini_stream_at = refl;
    minis_owned = subst (λ table. OwnDisjointChains table [] who.minis) (sym same_mini_fat) h.kept.minis_owned;
    minis_there = λ k. subst (λ room. AllByRecursion (λ n. 64 * n + 64 ≤ room) (who.minis k)) (sym same_room) (h.kept.minis_there k);
    minis_of_streams = h.kept.minis_of_streams;
  }

  -- a stream has its bytes in sectors of the copy's own
  stream_kept : (id : ℕ) (e : Entry) (start : ℕ) (content : List ℕ) → (id ≡ 0 → ⊥) × IsOneOf h.ids id → slice_get s.entries id ≡ Some e → e.kind ≡ kind_stream
      → slice_get t.entries id ≡ Some (record e { start = start; color = color_then e; size = e.size })
      → OwnerHasStream s who id e content → OwnerHasStream t now id (record e { start = start; color = color_then e; size = e.size }) content
  stream_kept id e start content among found kind found_now has = record {
    short = λ below.
        let was = has.short below in
        let short : IsLongAmong s.entries h.ids id → ⊥ = λ it. let same : it.entry.size ≡ e.size = found_size it.entry it.found in let long = it.long in omega (arith, same, long, below) in
        let own_start : start ≡ e.start = start_of (sym found_now ∙ c.repairs.other id e among.0 (c.restarts.other id among.0 short ∙ found)) in (
          c.none id short,
          record {
            start = own_start ∙ was.1.start;
            content_is = was.1.content_is ∙ ap (λ l. take e.size (flat_map (λ n. slice_range l (64 * n) (64 * n + 64)) (who.minis (stream_owner id)))) (sym c.same_mini_stream);
            whole = was.1.whole;
            there = all_taken _ e.size _ (all_parts _ _ (who.minis (stream_owner id)) (places_there t.version t.bytes (own mini_stream_owner) (c.whole mini_stream_owner)));
          },
        );
    long = λ up.
        let was = has.long up in
        let is_long : IsLongAmong s.entries h.ids id = record { entry = e; found = found; of_kind = kind; long = up; among = among.1 } in
        let new_start : start ≡ first_of (own (stream_owner id)) = start_of (sym found_now ∙ c.repairs.other id (record e { start = first_of (own (stream_owner id)) }) among.0 (c.restarts.long id e among.0 is_long found)) in (
          was.0,
          record {
            start = new_start;
            content_is = was.1.content_is ∙ ap (take e.size) (sym (c.same_stream id is_long));
            whole = was.1.whole;
            there = all_taken _ e.size _ (places_there t.version t.bytes (own (stream_owner id)) (c.whole (stream_owner id)));
          },
        );
  }
    where
      found_size : (f : Entry) → slice_get s.entries id ≡ Some f → f.size ≡ e.size
      found_size f other = let both : Some f ≡ Some e = sym other ∙ found in let same : f ≡ e = cc in ap (λ x. x.size) same

      start_of : {a b : Entry} → Some a ≡ Some b → a.start ≡ b.start
      start_of {a} {b} both = let same : a ≡ b = cc in ap (λ x. x.start) same

  -- and its size is the one that it had
  stream_again : (id : ℕ) (e : Entry) (start n : ℕ) (content : List ℕ) → (id ≡ 0 → ⊥) × IsOneOf h.ids id → slice_get s.entries id ≡ Some e → e.kind ≡ kind_stream
      → slice_get t.entries id ≡ Some (record e { start = start; color = color_then e; size = n }) → ((id ≡ 0 → ⊥) → n ≡ e.size)
      → OwnerHasStream s who id e content → OwnerHasStream t now id (record e { start = start; color = color_then e; size = n }) content
  stream_again id e start n content among found kind found_now same has =
      let is = same among.0 in
      subst (λ m. OwnerHasStream t now id (record e { start = start; color = color_then e; size = m }) content) (sym is)
      (stream_kept id e start content among found kind (subst (λ m. slice_get t.entries id ≡ Some (record e { start = start; color = color_then e; size = m })) is found_now) has)

  -- what is no stream of the copy is none of the file
  among_then : (id : ℕ) → IsStreamAmong s.entries h.ids id → IsStreamAmong t.entries h.ids id
  among_then id among = (among.0, some_again s.entries c.between t.entries h.ids own c.root_size c.restarts c.repairs (λ e. e.kind ≡ kind_stream) (λ e. e.kind ≡ kind_stream) (λ e start n kind. kind) id among.1)

  pub copy_held : OwnersHoldTree t now letters tree
  unfolding IsDistinct
  copy_held = record {
    root = root;
    kept = kept;
    facts = h.facts;
    children = h.children;
    ids = h.ids;
    siblings = siblings_again s.entries c.between t.entries h.ids own c.root_size c.restarts c.repairs h.root.child h.children h.siblings;
    holds = holds_again s.entries c.between t.entries h.ids own c.root_size c.restarts c.repairs (λ n. (n ≡ 0 → ⊥) × IsOneOf h.ids n) (OwnerHasStream s who) (OwnerHasStream t now) stream_again tree.content h.children h.ids
        (among_all h.ids h.ids (λ n one. one) h.once.0) h.holds;
    once = h.once;
    ordered = h.ordered;
    unused = λ id apart. (
      c.none id (λ it. apart (among_then id (one_is_not_none h.ids id it.among, subst (λ o. IfSome o (λ e. e.kind ≡ kind_stream)) (sym it.found) it.of_kind))),
      (h.unused id (λ among. apart (among_then id among))).1,
    );
  }

  -- the tree has the entries that it has in the file
  pub copy_ids : copy_held.ids ≡ h.ids
  unfolding copy_held
  copy_ids = refl

  -- and its root is the file's, but for where it begins, its colour and its size
  pub copy_root : copy_held.root ≡ record h.root { start = first_of (own mini_stream_owner); color = color_then h.root; size = c.root_size }
  unfolding copy_held
  copy_root = refl
