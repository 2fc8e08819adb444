-- A stream that is found by its path, and the bytes that it has in the tree that a file holds.
use Rattle.std.proofs.Common.{◌≡◌, ◌∙◌, ◌⊎◌, inl, inr, List, [], ℕ, length, take, drop, true, Ok, Err, ap, subst, sym}
use Rattle.std.specs.Prelude.{IfErr, IfOk, Result, ◌||◌}
use Rattle.cfb_medium.specs.Calls.{IsJustifiedError}
use Rattle.cfb_medium.specs.declared.error.Error.{Error}
use Rattle.cfb_medium.specs.declared.error.Error.TheVariants.{Failed, InvalidData, Memory}
use Rattle.cfb_medium.specs.declared.medium.ReadMedium.{Ghosts}
use Rattle.cfb_fat.specs.Tables.{bytes_of, has_failed_here, medium_of, IsJustifiedBySectors}
use Rattle.cfb_tree.specs.Directory.{kind_stream, Entry}
use Rattle.cfb_tree.specs.Paths.{Path}
use Rattle.cfb_tree.specs.Tree.{Tree}
use Rattle.cfb_directory.specs.Views.{entries_held}
use Rattle.cfb_mini.specs.Views as mini
use Rattle.cfb_mini.specs.Views.{allocator_of, directory_of}
use Rattle.cfb_mini.specs.declared.mini_allocator.MiniAllocator.{MiniAllocator}
use Rattle.cfb_spec.specs.Means.{HasBytes}
use Rattle.cfb_spec.specs.TreeRules.{has_bytes, open_read_stream, refused, Answer}
use Rattle.cfb_entries.specs.Rules.{answer_at, names_in, EntriesHoldSizes, IsFoundAt}
use Rattle.cfb_entries.proofs.StreamsHeld.{stream_held, StreamHeld}
use Rattle.cfb_stream_reads.specs.Content as lower
use Rattle.cfb_stream_reads.specs.Streams.{sectors_in, IsOfLevel, StreamLiesIn}
use Rattle.cfb_stream_reads.specs.declared.ahead.ReadAhead.{ReadAhead}
use Rattle.cfb_stream_reads.specs.declared.opening.StreamLinks.{StreamLinks}
use Rattle.cfb.specs.Streams.{FileHoldsTree, IsBroken, IsStreamAt, IsFileMemoryOrFailed}
use Rattle.cfb.specs.Views.{file_case_table, mini_of, FileShowsTree}
use Rattle.cfb.specs.declared.compound_file.CompoundFile.{CompoundFile}
use Rattle.cfb.proofs.Holding.{entries_hold}
use Rattle.cfb.proofs.StreamBytes.{bytes_held, lies_where}

-- where nothing was read ahead, what was is of every stream
pub none_ahead : (it : ReadAhead) (content : List ℕ) → lower.ahead_of it ≡ [] → lower.IsAheadOf content it
none_ahead it content is = is ∙ ap (λ xs. take (length xs) (drop it.start content)) (sym is)

module _ {F : Type 0} {g : Ghosts F} (it : CompoundFile F g) (text : List ℕ) (tree : Tree) where
  abbrev answer : Answer
  answer = answer_at (file_case_table it) tree (λ p. open_read_stream p) (names_in text)

  -- the entry that was found among those in memory is the stream's
  pub found_so : (entries : List Entry) (e : Entry) → entries ≡ entries_held (directory_of (mini_of it)) → (names : Path) → IsFoundAt (file_case_table it) entries text names e → e.kind ≡ kind_stream → IsStreamAt it text e
  found_so entries e same names found kind = record { names = names; found = subst (λ d. IsFoundAt (file_case_table it) d text names e) same found; of_kind = kind }

  pub shown_in : (entries : List Entry) → entries ≡ entries_held (directory_of (mini_of it)) → FileShowsTree it tree → EntriesHoldSizes (file_case_table it) entries tree
  shown_in entries same h = subst (λ d. EntriesHoldSizes (file_case_table it) d tree) (sym same) h

  held_at : (e : Entry) (at : IsStreamAt it text e) (h : FileHoldsTree it tree) → StreamHeld (file_case_table it) (HasBytes (bytes_of (allocator_of (mini_of it))) h.layout) tree at.names e
  held_at e at h =
      let (named, id, leads, found) = at.found in
      stream_held (file_case_table it) (HasBytes (bytes_of (allocator_of (mini_of it))) h.layout) (entries_held (directory_of (mini_of it))) tree e at.of_kind (entries_hold it tree h) at.names id leads found

  -- why none was found
  pub refused_so : (e : Error) → (e ≡ Memory) ⊎ (answer ≡ refused e) → IsFileMemoryOrFailed it e ⊎ (answer ≡ refused e)
  refused_so e (inl memory) = inl (inl memory)
  refused_so e (inr is) = inr is

  pub refused_first : (e : Error) → (e ≡ Memory) ⊎ (answer ≡ refused e) → IsFileMemoryOrFailed it e ⊎ (answer ≡ refused e) ⊎ ((e ≡ InvalidData) × IsBroken it text)
  refused_first e (inl memory) = inl (inl memory)
  refused_first e (inr is) = inr (inl is)

  -- why its sectors were not
  module _ (e : Entry) (at : IsStreamAt it text e) (error : Error)
      (never : error ≡ InvalidData → (sectors : List ℕ) → StreamLiesIn (mini_of it) e.start e.size sectors → ⊥)
      (why : ((error ≡ Failed) × (has_failed_here (allocator_of (mini_of it)) ≡ true)) ⊎ (error ≡ InvalidData) ⊎ (error ≡ Memory)) where
    pub broken_so : IsFileMemoryOrFailed it error ⊎ (answer ≡ refused error) ⊎ ((error ≡ InvalidData) × IsBroken it text)
    broken_so = elim why [
      | inl failed ↦ inl (inr failed)
      | inr rest ↦ elim rest [
        | inl wrong ↦ inr (inr (wrong, record { entry = e; at_path = at; lost = never wrong }))
        | inr memory ↦ inl (inl memory)
      ]
    ]

    pub never_broken : FileHoldsTree it tree → IsFileMemoryOrFailed it error ⊎ (answer ≡ refused error)
    never_broken h = elim why [
      | inl failed ↦ inl (inr failed)
      | inr rest ↦ elim rest [
        | inl wrong ↦ absurd (lost wrong)
        | inr memory ↦ inl (inl memory)
      ]
    ]
      where
        lost : error ≡ InvalidData → ⊥
        lost wrong =
            let held = held_at e at h in
            let (sectors, lies) = lies_where (mini_of it) h.layout h.shows h.memory e held.bytes held.reads in
            never wrong sectors lies

  -- its bytes in the tree are those of its sectors
  pub bytes_found : (e : Entry) (at : IsStreamAt it text e) → FileHoldsTree it tree → (links : StreamLinks) → StreamLiesIn (mini_of it) e.start e.size (sectors_in links)
      → IsOfLevel (mini_of it) e.size links → (bytes : List ℕ) × (answer ≡ has_bytes bytes) × lower.SectorsHaveContent (mini_of it) links e.size bytes
  bytes_found e at h links lies level =
      let held = held_at e at h in (
        held.bytes,
        ap (answer_at (file_case_table it) tree (λ p. open_read_stream p)) at.found.0 ∙ held.answer,
        bytes_held (mini_of it) h.layout h.shows h.memory e links lies level h.honest held.bytes held.reads,
      )

-- what is known of an error, told another way
pub for_error : {T E : Type 0} (P Q : E → Type 0) (r : Result T E) → ((e : E) → P e → Q e) → IfErr r P → IfErr r Q
for_error P Q (Ok x) so h = h
for_error P Q (Err e) so h = so e h

-- and of an answer
pub for_ok : {T E : Type 0} (P Q : T → Type 0) (r : Result T E) → ((x : T) → P x → Q x) → IfOk r P → IfOk r Q
for_ok P Q (Ok x) so h = so x h
for_ok P Q (Err e) so h = h

-- what holds of a file and a number holds of the same ones
pub carried : {A : Type 0} (P : A → ℕ → Type 0) (a b : A) (m n : ℕ) → b ≡ a → n ≡ m → P a m → P b n
carried P a b m n first second h = subst (λ x. P x n) (sym first) (subst (P a) (sym second) h)

-- a cause since a later read is one since an earlier state
pub cause_since : {F : Type 0} {g : Ghosts F} (a b c : MiniAllocator F g) (e : Error) → mini.OnlyReadsMini a b → IsJustifiedBySectors (allocator_of b) (allocator_of c) e → IsJustifiedBySectors (allocator_of a) (allocator_of c) e
cause_since {F} {g} a b c e rests cause = λ start from.
    let below = rests.directory.allocator.sectors in
    subst (λ f. IsJustifiedError g.failures (λ m. f || g.failed m) start (medium_of (allocator_of c)) e) below.failed (cause start (below.continues start from))
