-- A stream that stands is read, and stays where the file was only read.
use Rattle.std.proofs.Common.{◌≡◌, ℕ, ◌⊎◌, inl, inr, List, length, ap, refl, sym, subst, ◌∙◌, ⊎_elim}
use Rattle.std.specs.Prelude.{Err, IfErr, IsErrOf, Ok, OnErr, OnOk, Result}
use Rattle.cfb_chains.specs.ChainCalls.{IsInvalidPlace}
use Rattle.cfb_tree_edits.specs.Orphans.{StaysTidy}
use Rattle.cfb_tree_edits.proofs.Resting.{keeps_rests}
use Rattle.cfb_medium.specs.Calls.{IsFaultOrInvalidInputIf}
use Rattle.cfb_medium.specs.declared.error.Error.{Error}
use Rattle.cfb_medium.specs.declared.medium.ReadMedium.{Ghosts}
use Rattle.cfb_tree.specs.Changes.{changed, with_bytes}
use Rattle.cfb_tree.specs.Paths.{Path}
use Rattle.cfb_tree.specs.Tree.{Tree}
use Rattle.cfb.specs.Streams.{FileHasStream, KeepsStream}
use Rattle.cfb.specs.Views.{file_case_table, mini_of}
use Rattle.cfb.specs.Writing.{file_under, id_of, owners_under, stream_len, IsFaultOrGone, IsStreamLost, IsLostAt, StreamIsWritten, StreamKeeps, KeepsAt, OnlyReadsStream, RewritesStream, RewritesAt, ClosesToTree}
use Rattle.cfb.specs.declared.compound_file.CompoundFile.{CompoundFile}
use Rattle.cfb.specs.declared.written_stream.Stream.{Stream}
use Rattle.cfb.proofs.Written.{alike_same, reads_written, written_kept}

-- an error is the same whatever the result would have held
pub err_as : {S T : Type 0} (e x : Error) → IsErrOf {T = S} (Err e) x → IsErrOf {T = T} (Err e) x
err_as e x is = let same : e ≡ x = cc in ap Err same

-- what follows where a call is done, or refused
pub on_ok : {T E A B : Type 0} (r : Result T E) → (A → B) → OnOk r A → OnOk r B
on_ok (Ok x) f h = f h
on_ok (Err e) f h = h

pub on_err : {T E A B : Type 0} (r : Result T E) → (A → B) → OnErr r A → OnErr r B
on_err (Ok x) f h = h
on_err (Err e) f h = f h

module _ {F : Type 0} {g : Ghosts F} where
  -- a stream is written by its file and its entry
  written_as : (a b : Stream F g) → file_under b ≡ file_under a → id_of b ≡ id_of a → (path : Path) (tree : Tree) (content : List ℕ) → (s : ClosesToTree a path tree content)
      → (then : StreamIsWritten (file_under b) path tree (id_of b) content) × (then.at.means.who ≡ owners_under s)
  written_as a b file id path tree content s =
      subst (λ n. (then : StreamIsWritten (file_under b) path tree n content) × (then.at.means.who ≡ owners_under s)) (sym id)
      (subst (λ f. (then : StreamIsWritten f path tree (id_of a) content) × (then.at.means.who ≡ owners_under s)) (sym file) (s.written, refl))

  -- it stands by these and its length
  pub stands_as : (a b : Stream F g) → file_under b ≡ file_under a → id_of b ≡ id_of a → stream_len b ≡ stream_len a → (path : Path) (tree : Tree) (content : List ℕ)
      → ClosesToTree a path tree content → ClosesToTree b path tree content
  stands_as a b file id len path tree content s = record { written = (written_as a b file id path tree content s).0; len = len ∙ s.len }

  -- so the owners are the same
  pub keeps_as : (a b : Stream F g) → file_under b ≡ file_under a → id_of b ≡ id_of a → stream_len b ≡ stream_len a → StreamKeeps a b
  unfolding stands_as
  keeps_as a b file id len path tree content s = (stands_as a b file id len path tree content s, (written_as a b file id path tree content s).1)

  -- what is kept since then
  pub kept_as : (a b c : Stream F g) → file_under b ≡ file_under a → id_of b ≡ id_of a → stream_len b ≡ stream_len a → StreamKeeps b c → StreamKeeps a c
  kept_as a b c file id len keeps path tree content s =
      let same = keeps_as a b file id len path tree content s in
      let later = keeps path tree content same.0 in (later.0, later.1 ∙ same.1)

  -- and what is rewritten
  pub rewrites_as : (change : List ℕ → List ℕ) (a b c : Stream F g) → file_under b ≡ file_under a → id_of b ≡ id_of a → stream_len b ≡ stream_len a → RewritesStream change b c → RewritesStream change a c
  rewrites_as change a b c file id len did path tree content s =
      let same = keeps_as a b file id len path tree content s in
      let later = did path tree content same.0 in
      subst (λ f. (it : ClosesToTree c path (changed (file_case_table f) (with_bytes (change content)) path tree) (change content)) × StaysTidy (mini_of f) (mini_of (file_under c)) (owners_under s) (owners_under it)) file
      (later.0, subst (λ w. StaysTidy (mini_of (file_under b)) (mini_of (file_under c)) w (owners_under later.0)) same.1 later.1)

  -- what was only read since it was seen so
  pub rests_as : (a b c : Stream F g) → b.file.ghost_name ≡ a.file.ghost_name → file_under b ≡ file_under a → id_of b ≡ id_of a → stream_len b ≡ stream_len a → OnlyReadsStream b c → OnlyReadsStream a c
  rests_as a b c name file id len h = record {
    file = h.file ∙ name;
    entry = h.entry ∙ id;
    len = h.len ∙ len;
    read = subst (λ f. KeepsStream (stream_len a) f (file_under c)) file (subst (λ n. KeepsStream n (file_under b) (file_under c)) len h.read);
    keeps = kept_as a b c file id len h.keeps;
  }

  -- and an error since then
  pub gone_as : (a b : Stream F g) (e : Error) → file_under b ≡ file_under a → id_of b ≡ id_of a → stream_len b ≡ stream_len a → IsFaultOrGone b e → IsFaultOrGone a e
  gone_as a b e file id len = ⊎_elim (λ fault. inl fault) (λ lost. inr (lost.0, λ path tree content s. lost.1 path tree content (stands_as a b file id len path tree content s)))

  -- the bytes with which it stands are those that are read
  pub stands_read : (it : Stream F g) (path : Path) (tree : Tree) (content : List ℕ) → ClosesToTree it path tree content → FileHasStream (file_under it) (stream_len it) content
  stands_read it path tree content s = subst (λ n. FileHasStream (file_under it) n content) (sym s.len) (reads_written (file_under it) path tree (id_of it) content s.written)

  -- a file of which a stream was read keeps it as one that is written
  pub read_keeps : (old new : CompoundFile F g) (len : ℕ) → KeepsStream len old new → (path : Path) (tree : Tree) (id : ℕ) (content : List ℕ) → len ≡ length content
      → (w : StreamIsWritten old path tree id content) → (then : StreamIsWritten new path tree id content) × (then.at.means.who ≡ w.at.means.who)
  read_keeps old new len k path tree id content size w =
      let has = subst (λ n. FileHasStream old n content) (sym size) (reads_written old path tree id content w) in
      written_kept old new path tree id content w (keeps_rests (mini_of old) (mini_of new) k.rests.mini) k.rests.letters k.rests.sound k.held (λ _. alike_same _ _ k.links) (k.content content has).ahead

  -- what is kept of it in the file is kept of the stream
  still_so : (old new : Stream F g) (path : Path) (tree : Tree) (content : List ℕ) (s : ClosesToTree old path tree content) → (then : StreamIsWritten (file_under new) path tree (id_of old) content) × (then.at.means.who ≡ owners_under s)
      → id_of new ≡ id_of old → stream_len new ≡ stream_len old → (then : ClosesToTree new path tree content) × (owners_under then ≡ owners_under s)
  still_so old new path tree content s kept id len =
      let it = subst (λ n. (then : StreamIsWritten (file_under new) path tree n content) × (then.at.means.who ≡ owners_under s)) (sym id) kept in
      (record { written = it.0; len = len ∙ s.len }, it.1)

  -- LAW: a stream that was only read stands as it did
  pub rests_so : (old new : Stream F g) → new.file.ghost_name ≡ old.file.ghost_name → id_of new ≡ id_of old → stream_len new ≡ stream_len old
      → KeepsStream (stream_len old) (file_under old) (file_under new) → OnlyReadsStream old new
  rests_so old new file id len k = record {
    file = file;
    entry = id;
    len = len;
    read = k;
    keeps = λ path tree content s. still_so old new path tree content s (read_keeps (file_under old) (file_under new) (stream_len old) k path tree (id_of old) content s.len s.written) id len;
  }

  -- an error of a read that has no other cause than that the file hasn't the bytes
  pub gone_so : (it : Stream F g) (e : Error) → IsFaultOrInvalidInputIf ⊥ e ⊎ (IsInvalidPlace e × ((content : List ℕ) → FileHasStream (file_under it) (stream_len it) content → ⊥)) → IsFaultOrGone it e
  gone_so it e = ⊎_elim (λ fault. inl fault) (λ lost. inr (lost.0, λ path tree content s. lost.1 content (stands_read it path tree content s)))

  pub if_gone : {T : Type 0} (it : Stream F g) (r : Result T Error) → IfErr r (λ e. IsFaultOrInvalidInputIf ⊥ e ⊎ (IsInvalidPlace e × ((content : List ℕ) → FileHasStream (file_under it) (stream_len it) content → ⊥)))
      → IfErr r (IsFaultOrGone it)
  if_gone it (Ok x) h = h
  if_gone it (Err e) h = gone_so it e h

  -- LAW: what is rewritten in the file is rewritten in the stream, where it knows its length
  pub rewrites_so : (change : List ℕ → List ℕ) (old new : Stream F g) → RewritesAt (id_of old) change (file_under old) (file_under new) → id_of new ≡ id_of old
      → ((path : Path) (tree : Tree) (content : List ℕ) → ClosesToTree old path tree content → stream_len new ≡ length (change content)) → RewritesStream change old new
  rewrites_so change old new did id len path tree content s =
      let later = changed (file_case_table (file_under old)) (with_bytes (change content)) path tree in
      let it = subst (λ n. (then : StreamIsWritten (file_under new) path later n (change content)) × StaysTidy (mini_of (file_under old)) (mini_of (file_under new)) (owners_under s) then.at.means.who) (sym id) (did path tree content s.written) in
      (record { written = it.0; len = len path tree content s }, it.1)

  -- LAW: what is kept in the file is kept in the stream
  pub keeps_so : (old new : Stream F g) → KeepsAt (id_of old) (file_under old) (file_under new) → id_of new ≡ id_of old → stream_len new ≡ stream_len old → StreamKeeps old new
  keeps_so old new kept id len path tree content s = still_so old new path tree content s (kept path tree content s.written) id len

  -- a stream that the file hasn't is lost
  pub lost_so : (it : Stream F g) → IsLostAt (id_of it) (file_under it) → IsStreamLost it
  lost_so it lost path tree content s = lost path tree content s.written
