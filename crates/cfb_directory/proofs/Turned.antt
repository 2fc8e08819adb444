-- What entries hold after links of siblings were set.
use Rattle.std.proofs.Common.{◌≡◌, ◌↔◌, ℕ, true, false, inl, inr, ◌⊎◌, ⊎_elim, IsTrue, List, [], ◌∷◌, refl, sym, ◌∙◌, subst}
use Rattle.std.specs.Prelude.{Err, Ok, OnErr, OnOk, Result, nat_eq, slice_set, Bool}
use Rattle.cfb_chains.specs.ChainCalls.{IsInvalid}
use Rattle.cfb_chains.specs.Owned.{ReplacesChain}
use Rattle.cfb_fat.specs.Calls.{FatErrorContract}
use Rattle.cfb_fat.specs.Seeing.{seen_of}
use Rattle.cfb_fat.specs.declared.allocator.Allocator.{Allocator}
use Rattle.cfb_fat.specs.Tables.{has_failed_here, version_of}
use Rattle.cfb_medium.specs.Calls.{IsFaultOrInvalidInputIf}
use Rattle.cfb_medium.specs.declared.error.Error.{Error}
use Rattle.cfb_medium.specs.declared.error.Error.TheVariants.{AlreadyExists, InvalidData, InvalidInput}
use Rattle.cfb_medium.specs.declared.medium.ReadMedium.{Ghosts}
use Rattle.cfb_chain_io.specs.ChainEffects.{KeepsFileInvariants}
use Rattle.cfb_chain_io.proofs.GoingOn.{goes_cause}
use Rattle.cfb_chain_io.proofs.WrittenParts.{becomes_same}
use Rattle.cfb_sectors.specs.Sectors.{sector}
use Rattle.cfb_siblings.specs.Changes.{AreColored, HoldsOneLess, HoldsOneMore, IsAlone, IsApart, TakesOut}
use Rattle.cfb_siblings.specs.Links.{holder, linked_to, relinked, taken_out}
use Rattle.cfb_siblings.specs.Places.{path_to, HasEntry, IsChild, LeadsBy, NameIsTaken}
use Rattle.cfb_siblings.specs.Reading.{ReadBy}
use Rattle.cfb_siblings.specs.Rotations.{raises_left, raises_right, rotated, HoldsStill, IsRotation, TurnsIn}
use Rattle.cfb_siblings.specs.declared.links.Link.{Link}
use Rattle.cfb_siblings.specs.declared.removal.Removal.{Removal}
use Rattle.cfb_siblings.specs.declared.rotation.Rotation.{Rotation}
use Rattle.cfb_siblings.proofs.Leading.{leads_on, parent_of_path}
use Rattle.cfb_siblings.proofs.Raising.{turns}
use Rattle.cfb_siblings.proofs.Same.{own_unique}
use Rattle.cfb_siblings.proofs.Taking.{taken_child, taken_object}
use Rattle.cfb_siblings.proofs.Unused.{read_by_place}
use Rattle.cfb_tree.specs.Changes.{added, removed}
use Rattle.cfb_tree.specs.Directory.{Entry}
use Rattle.cfb_tree.specs.Entries.{empty_entry}
use Rattle.cfb_tree.specs.Names.{CaseTable}
use Rattle.cfb_tree.specs.Objects.{name_of, Object}
use Rattle.cfb_tree.specs.Paths.{Path}
use Rattle.cfb_tree.specs.Tree.{Tree}
use Rattle.cfb_directory.specs.Changes.{HasDirectory, LiesBeside, SetsEntry}
use Rattle.cfb_directory.specs.Children.{AddsAt, AddsChild, HoldsChild, HoldsStorage, RemovesAt, RemovesChild}
use Rattle.cfb_directory.specs.Entries.{SizesFit}
use Rattle.cfb_directory.specs.Growth.{GrowsDirectory, CanGrowDirectory}
use Rattle.cfb_directory.specs.Turning.{AreAs, HasTurning, HoldChild, HoldOn, SetsLinks, WritesDirEntries}
use Rattle.cfb_directory.specs.Views.{allocator_of, directory_ids, entries_held, numbers_noted, DirectoryMatchesBytes}
use Rattle.cfb_directory.specs.declared.directory.Directory.{Directory}
use Rattle.cfb_directory.proofs.Growing.{grown_kept}
use Rattle.cfb_directory.proofs.Setting.{failed_is}
use Rattle.cfb_directory.proofs.Inserted.{Inserts, as_itself, at_then, length_relinked, relinked_at, relinked_sizes}
use Rattle.cfb_directory.proofs.Stages.{becomes_again}

-- entries as they were, but for links and colours
pub as_same : (es : List Entry) → AreAs es es
as_same es = record { entries = λ k e found. (e, found, as_itself e); len = refl; sizes = λ v fits. fits }

pub as_then : (old mid new : List Entry) → AreAs old mid → AreAs mid new → AreAs old new
as_then old mid new first second = record {
  entries = λ k e found. at_then mid new k e (first.entries k e found) (λ f at. second.entries k f at);
  len = second.len ∙ first.len;
  sizes = λ v fits. second.sizes v (first.sizes v fits);
}

as_relinked : (link : Link) (target : ℕ) (es : List Entry) → AreAs es (relinked link target es)
as_relinked link target es = record {
  entries = λ k e found. relinked_at link target k es e found;
  len = length_relinked link target es;
  sizes = λ v fits. relinked_sizes v link target es fits;
}

pub entry_as : (old new : List Entry) (k : ℕ) → AreAs old new → HasEntry old k → HasEntry new k
entry_as old new k alike (e, found) = let at = alike.entries k e found in (at.0, at.1)

-- a child more, and then siblings that are turned
pub adds_still : (old mid new : List Entry) (e : Entry) (id : ℕ) → AddsAt old mid e id → AreAs mid new → AddsAt old new e id
adds_still old mid new e id adds alike = record {
  entry = at_then mid new id e adds.entry (λ f at. alike.entries id f at);
  unused = adds.unused;
  longer = λ k unused. alike.len ∙ adds.longer k unused;
  others = λ k x other found. at_then mid new k x (adds.others k x other found) (λ f at. alike.entries k f at);
  sizes = λ v small fits. alike.sizes v (adds.sizes v small fits);
}

-- siblings that are turned, and then a child less
pub removes_still : (old mid new : List Entry) (id : ℕ) → AreAs old mid → RemovesAt mid new id → RemovesAt old new id
removes_still old mid new id alike removes = record {
  entry = removes.entry;
  others = λ k x other found. at_then mid new k x (alike.entries k x found) (λ f at. removes.others k f other at);
  sizes = λ v fits. removes.sizes v (alike.sizes v fits);
}

module _ (letters : CaseTable) (Reads : Entry → List ℕ → Type 0) (tree : Tree) (path : Path) (parent : ℕ) where
  still_then : (old mid new : List Entry) (ids : List ℕ) → (first : HoldsStill letters Reads old mid tree ids path parent)
      → HoldsStill letters Reads mid new tree first.holds.holds.ids path parent → HoldsStill letters Reads old new tree ids path parent
  still_then old mid new ids first second = record {
    holds = record { holds = second.holds.holds; ids_are = second.holds.ids_are ∙ first.holds.ids_are };
    storage = second.storage;
    ways = λ way by. second.ways way (first.ways way by);
    children = λ name id it. second.children name id (first.children name id it);
    objects = λ name id o own it is. second.objects name id o own (first.children name id it) (first.objects name id o own it is);
    colors = λ right. subst (λ l. AreColored mid l → AreColored new l) first.holds.ids_are second.colors (first.colors right);
  }

-- the same tree, in turn
pub hold_same : (letters : CaseTable) (es : List Entry) (parent : ℕ) → HoldOn letters es es parent
hold_same letters es parent reads tree path h = record {
  holds = record { holds = h.holds; ids_are = refl };
  storage = h.storage;
  ways = λ way by. by;
  children = λ name id it. it;
  objects = λ name id o own it is. is;
  colors = λ right. right;
}

pub hold_then : (letters : CaseTable) (old mid new : List Entry) (parent : ℕ) → HoldOn letters old mid parent → HoldOn letters mid new parent → HoldOn letters old new parent
hold_then letters old mid new parent first second reads tree path h =
    let one = first reads tree path h in
    still_then letters (ReadBy reads) tree path parent old mid new h.holds.ids one (second reads tree path (record { holds = one.holds.holds; storage = one.storage }))

pub hold_turned : (letters : CaseTable) (es : List Entry) (parent : ℕ) (it : Rotation) → TurnsIn letters es parent it → HoldOn letters es (rotated it es) parent
hold_turned letters es parent it planned reads tree path h =
    (turns letters (ReadBy reads) (read_by_place reads) es tree path parent h.holds h.storage it.raised.link planned.upper
    (planned.leads reads tree path h.holds h.storage) it planned.rotation).still

pub turned_there : (letters : CaseTable) (es : List Entry) (parent : ℕ) (it : Rotation) → TurnsIn letters es parent it → HasTurning es it
turned_there letters es parent it planned = by_rotation it.raised.link planned.upper planned.rotation planned.there
  where
    by_rotation : (link : Link) (upper : ℕ) → IsRotation es link upper it → HasEntry es (holder it.raised.link) → HasTurning es it
    by_rotation link upper (raises_left u l u_found more l_found is) raised =
        record { inner = rw is (u, u_found); lowered = rw is (l, l_found); raised = raised }
    by_rotation link upper (raises_right u l u_found more l_found is) raised =
        record { inner = rw is (u, u_found); lowered = rw is (l, l_found); raised = raised }

-- the same tree, with the child to which a link leads
pub child_same : (es : List Entry) (link : Link) (id : ℕ) → HoldChild es es link link id
child_same es link id letters reads tree path parent name h = (hold_same letters es parent reads tree path h.within, h.taken)

pub child_within : (letters : CaseTable) (reads : ℕ → ℕ → List ℕ → Bool) (old new : List Entry) (tree : Tree) (ids : List ℕ) (path : Path) (parent : ℕ) (name : List ℕ) (now : Link) (id : ℕ)
    → (still : HoldsStill letters (ReadBy reads) old new tree ids path parent) → NameIsTaken letters new parent name now id
    → HoldsChild letters reads new tree path parent name now id
child_within letters reads old new tree ids path parent name now id still taken =
    record { within = record { holds = still.holds.holds; storage = still.storage }; taken = taken }

pub child_then : (old mid new : List Entry) (link now then : Link) (id : ℕ) → HoldChild old mid link now id → HoldChild mid new now then id → HoldChild old new link then id
unfolding child_within
child_then old mid new link now then id first second letters reads tree path parent name h =
    let one = first letters reads tree path parent name h in
    let two = second letters reads tree path parent name (child_within letters reads old mid tree h.within.holds.ids path parent name now id one.0 one.1) in
    (still_then letters (ReadBy reads) tree path parent old mid new h.within.holds.ids one.0 two.0, two.1)

pub child_turned : (es : List Entry) (link : Link) (id : ℕ) (it : Rotation) → IsRotation es link id it → HoldChild es (rotated it es) link it.lowered.link id
child_turned es link id it planned letters reads tree path parent name h =
    let t = h.taken in
    let turned = turns letters (ReadBy reads) (read_by_place reads) es tree path parent h.within.holds h.within.storage link id
    (record { owner = t.owner; front = t.front; back = t.back; hangs = t.hangs; fits = t.fits }) it planned in
    let at = turned.reached in
    let child = taken_child letters (ReadBy reads) (read_by_place reads) es tree path parent link id name h.within.holds h.within.storage t in (
      turned.still,
      record { owner = at.owner; front = at.front; back = at.back; hangs = at.hangs; fits = at.fits; named = (turned.still.children name id child).named },
    )

pub child_there : (es : List Entry) (link : Link) (id : ℕ) (it : Rotation) → IsRotation es link id it → (letters : CaseTable) (reads : ℕ → ℕ → List ℕ → Bool) (tree : Tree) (path : Path)
    (parent : ℕ) (name : List ℕ) → HoldsChild letters reads es tree path parent name link id → HasTurning es it
child_there es link id it planned letters reads tree path parent name h =
    let t = h.taken in
    let turned = turns letters (ReadBy reads) (read_by_place reads) es tree path parent h.within.holds h.within.storage link id
    (record { owner = t.owner; front = t.front; back = t.back; hangs = t.hangs; fits = t.fits }) it planned in
    record { inner = turned.inner; lowered = turned.lowered; raised = turned.raised }

-- a new child, and then siblings that are turned
pub more_still : (letters : CaseTable) (Reads : Entry → List ℕ → Type 0) (old mid new : List Entry) (tree : Tree) (ids : List ℕ) (path : Path) (parent : ℕ) (name : List ℕ) (id : ℕ)
    → (more : HoldsOneMore letters Reads old mid tree ids (path_to path name) id) → IsChild letters mid parent name id
    → HoldsStill letters Reads mid new tree more.holds.ids path parent → HoldsOneMore letters Reads old new tree ids (path_to path name) id
more_still letters Reads old mid new tree ids path parent name id more child still = record {
  holds = still.holds.holds;
  all_are = subst (λ l. (k : ℕ) → IsApart k (0 ∷ l) ↔ (nat_eq k id ≡ false) × IsApart k (0 ∷ ids)) (sym still.holds.ids_are) more.all_are;
  at_path = leads_on letters new path 0 parent name id still.storage.leads (still.children name id child);
  colors = λ right. subst (AreColored new) (sym still.holds.ids_are) (still.colors (more.colors right));
}

pub adds_child : (letters : CaseTable) (old mid new : List Entry) (parent : ℕ) (e : Entry) (name : List ℕ) (id : ℕ)
    → ((reads : ℕ → ℕ → List ℕ → Bool) (tree : Tree) (path : Path) (object : Object) → (h : HoldsStorage letters reads old tree path parent) → IsAlone (ReadBy reads) e object → name_of object ≡ name
    → Inserts letters (ReadBy reads) old mid (added letters object (path_to path name) tree) h.holds.ids path parent name id)
    → HoldOn letters mid new parent → AddsChild letters old new parent name e id
adds_child letters old mid new parent e name id inserts still reads tree path object h alone named =
    let it = inserts reads tree path object h alone named in
    let after = added letters object (path_to path name) tree in
    more_still letters (ReadBy reads) old mid new after h.holds.ids path parent name id it.more it.child
    (still reads after path (record { holds = it.more.holds; storage = it.storage }))

-- siblings that are turned, and then a child less
less_still : (letters : CaseTable) (Reads : Entry → List ℕ → Type 0) (old mid new : List Entry) (tree after : Tree) (ids : List ℕ) (path : Path) (parent : ℕ) (name : List ℕ) (id : ℕ)
    (own : List ℕ) → (still : HoldsStill letters Reads old mid tree ids path parent)
    → HoldsOneLess letters Reads mid new after still.holds.holds.ids (path_to path name) id own → HoldsOneLess letters Reads old new after ids (path_to path name) id own
less_still letters Reads old mid new tree after ids path parent name id own still less =
    let it = subst (λ l. HoldsOneLess letters Reads mid new after l (path_to path name) id own) still.holds.ids_are less in
    record {
      holds = it.holds;
      all_are = it.all_are;
      gone = it.gone;
      ways = λ way by. it.ways way (subst (λ q. LeadsBy letters mid 0 q way) (sym (parent_of_path path name))
          (still.ways way (subst (λ q. LeadsBy letters old 0 q way) (parent_of_path path name) by)));
      colors = λ right. it.colors (still.colors right);
    }

pub removes_then : (old mid new : List Entry) (link now : Link) (id : ℕ) (removal : Removal) → HoldChild old mid link now id
    → ((letters : CaseTable) (reads : ℕ → ℕ → List ℕ → Bool) (tree : Tree) (path : Path) (parent : ℕ) (name : List ℕ) → (h : HoldsChild letters reads mid tree path parent name now id)
    → TakesOut letters (ReadBy reads) mid tree h.within.holds.ids (path_to path name) id removal)
    → new ≡ slice_set (taken_out removal mid) id empty_entry → RemovesChild old new link id
unfolding child_within
removes_then old mid new link now id removal keeps plan is letters reads tree path parent name h =
    let one = keeps letters reads tree path parent name h in
    let out = plan letters reads tree path parent name (child_within letters reads old mid tree h.within.holds.ids path parent name now id one.0 one.1) in
    let child = taken_child letters (ReadBy reads) (read_by_place reads) old tree path parent link id name h.within.holds h.within.storage h.taken in
    let was = taken_object letters (ReadBy reads) (read_by_place reads) old tree path parent link id name h.within.holds h.within.storage h.taken in
    let same = own_unique mid (ReadBy reads) id out.object was.0 out.own was.1 out.is_object (one.0.objects name id was.0 was.1 child was.2) in
    let gone = removed letters (path_to path name) tree in
    record {
      object = was.0;
      own = was.1;
      is_object = was.2;
      holds = less_still letters (ReadBy reads) old mid new tree gone h.within.holds.ids path parent name id was.1 one.0
          (subst (λ xs. HoldsOneLess letters (ReadBy reads) mid new gone one.0.holds.holds.ids (path_to path name) id xs) same
          (subst (λ es. HoldsOneLess letters (ReadBy reads) mid es gone one.0.holds.holds.ids (path_to path name) id out.own) (sym is) (out.leaves empty_entry)));
    }

module _ {F : Type 0} {g : Ghosts F} where
  pub writes_same : (it : Directory F g) → WritesDirEntries it it
  unfolding seen_of
  writes_same it = record {
    ids = refl;
    becomes = λ has. becomes_same (sector (version_of (allocator_of it))) (directory_ids it) (seen_of (allocator_of it)) has.chain.has.linked;
    has = λ has. has;
  }

  pub writes_one : (old new : Directory F g) (id : ℕ) (e : Entry) → SetsEntry id e old new → WritesDirEntries old new
  writes_one old new id e set = record { ids = set.ids; becomes = set.becomes; has = set.has }

  pub writes_then : (old mid new : Directory F g) → KeepsFileInvariants (allocator_of old) (allocator_of mid) → WritesDirEntries old mid → WritesDirEntries mid new → WritesDirEntries old new
  unfolding seen_of
  writes_then old mid new goes first second =
      let v = version_of (allocator_of old) in
      let ids = directory_ids old in
      record {
        ids = second.ids ∙ first.ids;
        becomes = λ has.
            let then = subst (λ u. ReplacesChain (sector u) [] (directory_ids mid) [] (directory_ids mid) (seen_of (allocator_of mid)) (seen_of (allocator_of new))) goes.version (second.becomes (first.has has)) in
            let same = subst (λ l. ReplacesChain (sector v) [] l [] l (seen_of (allocator_of mid)) (seen_of (allocator_of new))) first.ids then in
            becomes_again (sector v) [] ids [] ids (seen_of (allocator_of old)) (seen_of (allocator_of mid)) (seen_of (allocator_of new)) (first.becomes has) same tt;
        has = λ has. second.has (first.has has);
      }

  pub sets_same : (it : Directory F g) → SetsLinks it it
  sets_same it = record { written = writes_same it; alike = as_same (entries_held it); noted = refl }

  pub sets_one : (old new : Directory F g) (link : Link) (target : ℕ) (e : Entry) → SetsEntry (holder link) (linked_to link target e) old new
      → numbers_noted new ≡ numbers_noted old → entries_held new ≡ relinked link target (entries_held old) → SetsLinks old new
  sets_one old new link target e set noted is = record {
    written = writes_one old new (holder link) (linked_to link target e) set;
    alike = subst (AreAs (entries_held old)) (sym is) (as_relinked link target (entries_held old));
    noted = noted;
  }

  pub sets_then : (old mid new : Directory F g) → KeepsFileInvariants (allocator_of old) (allocator_of mid) → SetsLinks old mid → SetsLinks mid new → SetsLinks old new
  sets_then old mid new goes first second = record {
    written = writes_then old mid new goes first.written second.written;
    alike = as_then (entries_held old) (entries_held mid) (entries_held new) first.alike second.alike;
    noted = second.noted ∙ first.noted;
  }

  -- sizes fit still
  pub sizes_still : (old mid : Directory F g) → KeepsFileInvariants (allocator_of old) (allocator_of mid) → AreAs (entries_held old) (entries_held mid)
      → SizesFit (version_of (allocator_of old)) (entries_held old) → SizesFit (version_of (allocator_of mid)) (entries_held mid)
  sizes_still old mid goes alike fits = subst (λ v. SizesFit v (entries_held mid)) (sym goes.version) (alike.sizes (version_of (allocator_of old)) fits)

  -- so the directory can take in entries still
  pub ready_still : (old mid : Directory F g) → KeepsFileInvariants (allocator_of old) (allocator_of mid) → has_failed_here (allocator_of mid) ≡ false → SetsLinks old mid → CanGrowDirectory old → CanGrowDirectory mid
  ready_still old mid goes live sets ready = record {
    has = sets.written.has ready.has;
    orderly = subst IsTrue (sym (goes.orderly live)) ready.orderly;
    sizes = sizes_still old mid goes sets.alike ready.sizes;
  }

module _ {F : Type 0} {g : Ghosts F} where
  -- what a call answered, over what was done before
  pub answers_wider : {T : Type 0} (refuses also : Error → Type 0) (r : Result T Error) (a m b : Allocator F g) → ((e : Error) → refuses e → also e)
      → KeepsFileInvariants a m → has_failed_here a ≡ false → has_failed_here m ≡ false → OnErr r (has_failed_here b ≡ true) → FatErrorContract refuses r m b → FatErrorContract also r a b
  answers_wider refuses also (Ok x) a m b wider goes live alive failed told =
      record { live = (live, told.live.1); failed = λ wrong. let never : true ≡ false = sym wrong ∙ live in absurd (cc); after = tt; cause = tt; fault = tt }
  answers_wider refuses also (Err e) a m b wider goes live alive failed told = record {
    live = tt;
    failed = λ wrong. let never : true ≡ false = sym wrong ∙ live in absurd (cc);
    after = inl failed;
    cause = goes_cause a m b e goes alive told.cause;
    fault = ⊎_elim (λ fault. inl fault) (λ is. inr (wider e is)) told.fault;
  }

  pub answers_then : {T : Type 0} (refuses : Error → Type 0) (r : Result T Error) (a m b : Allocator F g) → KeepsFileInvariants a m → has_failed_here a ≡ false → has_failed_here m ≡ false
      → OnErr r (has_failed_here b ≡ true) → FatErrorContract refuses r m b → FatErrorContract refuses r a b
  answers_then refuses r a m b goes live alive failed told = answers_wider refuses refuses r a m b (λ e is. is) goes live alive failed told

  -- memory is that of the bytes, unless it has failed
  pub kept_or_failed : {T : Type 0} (r : Result T Error) (old new : Directory F g) → KeepsFileInvariants (allocator_of old) (allocator_of new) → OnOk r (HasDirectory old → GrowsDirectory old new)
      → OnErr r (has_failed_here (allocator_of new) ≡ true) → DirectoryMatchesBytes old → LiesBeside old → DirectoryMatchesBytes new
  kept_or_failed (Ok x) old new goes grown failed = grown_kept old new goes grown
  kept_or_failed (Err e) old new goes grown failed = λ held beside. failed_is new failed

-- what a link that isn't set answers is no refusal of a name
pub no_name : (e : Error) → IsFaultOrInvalidInputIf ⊥ e ⊎ IsInvalid e → (e ≡ AlreadyExists) ⊎ (e ≡ InvalidInput) → ⊥
no_name e (inl fault) (inl is) = subst (IsFaultOrInvalidInputIf ⊥) is fault
no_name e (inl fault) (inr is) = subst (IsFaultOrInvalidInputIf ⊥) is fault
no_name e (inr bad) (inl is) = let never : InvalidData ≡ AlreadyExists = sym bad ∙ is in absurd (cc)
no_name e (inr bad) (inr is) = let never : InvalidData ≡ InvalidInput = sym bad ∙ is in absurd (cc)
