-- A stream that gets its bytes from a source, piece by piece.
use Rattle.std.proofs.Common.{◌≡◌, ◌∙◌, ℕ, ◌+◌, ◌≤◌, IsTrue, inl, inr, List, [], ◌++◌, length, take, drop, replicate, refl, ap, sym, subst, true, false, ⊎_elim, arith, length-append}
use Rattle.std.proofs.Math.Seq.{take-add}
use Rattle.std.proofs.lemmas.List.{length-replicate, length-take-le, take-append-le}
use Rattle.std.specs.Prelude.{Err, Ok, Option, Result}
use Rattle.cfb_chain_io.proofs.GoingOn.{goes_cause}
use Rattle.cfb_chain_io.proofs.WrittenParts.{over_then}
use Rattle.cfb_chains.proofs.ChainWriting.{length_within}
use Rattle.cfb_chain_io.specs.ChainEffects.{KeepsFileInvariants}
use Rattle.cfb_fat.specs.Calls.{FatErrorContract}
use Rattle.cfb_fat.specs.Keeping.{fails_cause, rests_cause}
use Rattle.cfb_fat.specs.OnlyReads.{all_rest_then}
use Rattle.cfb_fat.specs.Tables.{has_failed_here, AllFails, OnlyReadsAllocator}
use Rattle.cfb_fat.specs.declared.allocator.Allocator.{Allocator}
use Rattle.cfb_medium.specs.Bytes.{overwritten}
use Rattle.cfb_medium.specs.declared.error.Error.{Error}
use Rattle.cfb_medium.specs.declared.medium.ReadMedium.{Ghosts}
use Rattle.cfb_stream_writes.specs.Streams.{resized}
use Rattle.cfb_stream_writes.proofs.LongBytes.{length-resized}
use Rattle.cfb_tree.specs.Changes.{changed, with_bytes}
use Rattle.cfb_tree.specs.Paths.{Path}
use Rattle.cfb_tree_edits.specs.Orphans.{StaysTidy}
use Rattle.cfb_tree_edits.proofs.Strays.{strays_then}
use Rattle.cfb.specs.Pieces.{ComesFrom, FillsFrom, IsSourceFault, OnlyReadsSource, PutsFrom, SourceErrorContract}
use Rattle.cfb.specs.Putting.{FilePuts, Rule}
use Rattle.cfb.specs.Views.{file_case_table, mini_of}
use Rattle.cfb.specs.Writing.{RewritesAt, StreamIsWritten}
use Rattle.cfb.specs.declared.compound_file.CompoundFile.{CompoundFile}
use Rattle.cfb.proofs.Again.{changed_again}
use Rattle.cfb.proofs.Rewriting.{overwritten_whole}

none_taken : (xs : List ℕ) → [] ≡ take 0 xs
none_taken xs = refl

module _ {S : Type 0} (k : Ghosts S) where
  -- a source that is only read
  pub reads_refl : (a : S) → OnlyReadsSource k a a
  reads_refl a = record { as_honest = refl; same = λ honest. refl; extends = λ start from. from }

  pub reads_then : (a b c : S) → OnlyReadsSource k a b → OnlyReadsSource k b c → OnlyReadsSource k a c
  reads_then a b c h j = record {
    as_honest = j.as_honest ∙ h.as_honest;
    same = λ honest. j.same (subst IsTrue (sym h.as_honest) honest) ∙ h.same honest;
    extends = λ start from. j.extends start (h.extends start from);
  }

  -- what is at fault with it was so before it was read
  pub source_cause : (len end : ℕ) (a b c : S) (e : Error) → end ≤ len → OnlyReadsSource k a b → IsSourceFault k end b c e → IsSourceFault k len a c e
  source_cause len end a b c e within h = ⊎_elim
      (λ since. inl (λ start from. since start (h.extends start from)))
      (λ short. inr (short.0, λ honest. let less = short.1 (subst IsTrue (sym h.as_honest) honest) in let same = ap length (h.same honest) in omega (arith, less, within, same)))

  module _ {F : Type 0} {g : Ghosts F} where
    -- LAW: a stream that was made so long has none of the source's bytes yet
    pub fills_first : (source : S) (len id : ℕ) (old new : CompoundFile F g) → RewritesAt id (resized len) old new → FillsFrom k source len 0 id old new
    fills_first source len id old new r = record { content = []; long = refl; first = λ honest many. none_taken (k.bytes source); rewrites = r }

    module _ (source read : S) (len at id : ℕ) (piece : List ℕ) (old now new : CompoundFile F g) (f : FillsFrom k source len at id old now) (within : at + length piece ≤ len) where
      same_bytes : (own : List ℕ) → overwritten (overwritten (resized len own) 0 f.content) at piece ≡ overwritten (resized len own) 0 (f.content ++ piece)
      same_bytes own =
          let long = f.long in
          let size = length-resized own len in
          over_then (resized len own) f.content piece 0 at (omega (arith, long)) (omega (arith, size, within))

      -- LAW: with a piece more it has those too
      pub fills_more : file_case_table now ≡ file_case_table old → OnlyReadsSource k source read → (IsTrue (k.honest read) → piece ≡ take (length piece) (drop at (k.bytes read)))
          → RewritesAt id (λ own. overwritten own at piece) now new → FillsFrom k source len (at + length piece) id old new
      fills_more letters h is wrote = record {
        content = f.content ++ piece;
        long = length-append f.content piece ∙ ap (λ n. n + length piece) f.long;
        first = λ honest many.
            let came : piece ≡ take (length piece) (drop at (k.bytes source)) = is (subst IsTrue (sym h.as_honest) honest) ∙ ap (λ l. take (length piece) (drop at l)) (h.same honest) in
            ap (λ l. l ++ piece) (f.first honest many) ∙ ap (λ l. take at (k.bytes source) ++ l) came ∙ sym (take-add at (length piece) (k.bytes source));
        rewrites = λ path tree own w.
            let table = file_case_table old in
            let one = overwritten (resized len own) 0 f.content in
            let two = overwritten one at piece in
            let before = f.rewrites path tree own w in
            let then = wrote path (changed table (with_bytes one) path tree) one before.0 in
            let there = subst (λ t. (then : StreamIsWritten new path t id two) × StaysTidy (mini_of old) (mini_of new) w.at.means.who then.at.means.who)
            (ap (λ l. changed l (with_bytes two) path (changed table (with_bytes one) path tree)) letters ∙ changed_again table one two path tree)
            (then.0, strays_then (mini_of old) (mini_of now) (mini_of new) w.at.means.who before.0.at.means.who then.0.at.means.who before.1 then.1) in
            subst (λ b. (then : StreamIsWritten new path (changed table (with_bytes b) path tree) id b) × StaysTidy (mini_of old) (mini_of new) w.at.means.who then.at.means.who) (same_bytes own) there;
      }

    module _ (source : S) (len at id : ℕ) (old now : CompoundFile F g) (f : FillsFrom k source len at id old now) (within : at ≤ len) where
      -- so long it is meanwhile
      pub filling_len : (own : List ℕ) → length (overwritten (resized len own) 0 f.content) ≡ len
      filling_len own =
          let long = f.long in
          let size = length-resized own len in
          length_within (resized len own) f.content 0 (omega (arith, long, size, within)) ∙ size

-- ---- what is put of a source

module _ {S : Type 0} (k : Ghosts S) (source : S) (len : ℕ) where
  -- so many bytes that a source gives, if it is honest
  pub some_bytes : (content : List ℕ) × ComesFrom k source len content
  some_bytes =
      let bytes = k.bytes source in
      let zeros = replicate len 0 in (
        take len (bytes ++ zeros),
        record {
          long = let many = length-replicate {A = ℕ} len 0 in length-take-le len (bytes ++ zeros) (omega (arith, length-append bytes zeros, many));
          first = λ honest many. take-append-le len bytes zeros many;
        },
      )

  module _ {F : Type 0} {g : Ghosts F} where
    -- what is said of any bytes is said of these
    pub puts_any : {T : Type 0} (rule : List ℕ → Rule) (path : Option Path) (result : Result T Error) (old new : CompoundFile F g) → ((content : List ℕ) → FilePuts (rule content) path result old new) → PutsFrom k rule source len path result old new
    puts_any rule path result old new puts = record { content = some_bytes.0; comes = some_bytes.1; puts = puts some_bytes.0 }

    -- a stream that was filled has all its bytes of the source
    pub filled_whole : (id : ℕ) (old new : CompoundFile F g) (f : FillsFrom k source len len id old new) (own : List ℕ) → overwritten (resized len own) 0 f.content ≡ f.content
    filled_whole id old new f own = ap (λ n. overwritten (resized n own) 0 f.content) (sym f.long) ∙ overwritten_whole own f.content

-- ---- errors and their causes

module _ {S : Type 0} (k : Ghosts S) {F : Type 0} {g : Ghosts F} where
  -- an error of the file alone
  pub own_error : (Q : Error → Type 0) (len : ℕ) (e : Error) (a b : Allocator F g) (s : S) → FatErrorContract {T = Unit {0}} Q (Err e) a b → SourceErrorContract k {T = Unit {0}} Q len (Err e) a b s s
  own_error Q len e a b s told = record { live = tt; failed = told.failed; after = told.after; cause = inl told.cause; fault = told.fault }

  module _ (Q R : Error → Type 0) (more : (e : Error) → Q e → R e) (len : ℕ) (s r : S) where
    -- more errors are allowed
    pub source_more : (result : Result (Unit {0}) Error) (a b : Allocator F g) → SourceErrorContract k Q len result a b s r → SourceErrorContract k R len result a b s r
    source_more (Ok x) a b told = record { live = told.live; failed = told.failed; after = tt; cause = tt; fault = tt }
    source_more (Err e) a b told = record { live = tt; failed = told.failed; after = told.after; cause = told.cause; fault = ⊎_elim (λ fault. inl fault) (λ rule. inr (more e rule)) told.fault }

    -- where a stream was found before
    pub source_found : (result : Result (Unit {0}) Error) (a m b : Allocator F g) → OnlyReadsAllocator a m → (has_failed_here a ≡ true → ⊥) → SourceErrorContract k Q len result m b s r → SourceErrorContract k R len result a b s r
    source_found (Ok x) a m b h live told = record {
      live = (sym h.sectors.failed ∙ told.live.0, told.live.1);
      failed = λ failed. absurd (live failed);
      after = tt;
      cause = tt;
      fault = tt;
    }
    source_found (Err e) a m b h live told = record {
      live = tt;
      failed = λ failed. absurd (live failed);
      after = ⊎_elim (λ failed. inl failed) (λ rests. inr (all_rest_then a m b h rests)) told.after;
      cause = ⊎_elim (λ own. inl (rests_cause a m b e h own)) (λ fault. inr fault) told.cause;
      fault = ⊎_elim (λ fault. inl fault) (λ rule. inr (more e rule)) told.fault;
    }

    -- where the file was changed before, and has failed by that
    pub source_failed : (a m b c : Allocator F g) (e : Error) → has_failed_here a ≡ false → has_failed_here m ≡ false → KeepsFileInvariants a m → SourceErrorContract k {T = Unit {0}} Q len (Err e) m b s r → AllFails b c → SourceErrorContract k {T = Unit {0}} R len (Err e) a c s r
    source_failed a m b c e first live goes told fails = record {
      live = tt;
      failed = λ failed. absurd (cc);
      after = inl fails.sectors.failed;
      cause = ⊎_elim (λ own. inl (fails_cause a b c e (goes_cause a m b e goes live own) fails)) (λ fault. inr fault) told.cause;
      fault = ⊎_elim (λ fault. inl fault) (λ rule. inr (more e rule)) told.fault;
    }
