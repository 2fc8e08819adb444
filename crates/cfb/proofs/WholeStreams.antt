-- A stream whose bytes are all read in one call.
use Rattle.std.proofs.Common.{◌≡◌, ◌∙◌, ◌⊎◌, inl, inr, ℕ, List, length, take, ap, arith, refl, subst, sym, ⊎_elim}
use Rattle.std.proofs.lemmas.List.{take_all}
use Rattle.cfb_chains.specs.ChainCalls.{IsInvalidPlace}
use Rattle.cfb_spec.specs.TreeRules.{refused, Answer}
use Rattle.cfb_medium.specs.Calls.{IsFaultOrInvalidInputIf}
use Rattle.cfb_medium.specs.declared.error.Error.{Error}
use Rattle.cfb_medium.specs.declared.error.Error.TheVariants.{InvalidData}
use Rattle.cfb_medium.specs.declared.medium.ReadMedium.{Ghosts}
use Rattle.cfb_mini.specs.Views.{OnlyReadsMini}
use Rattle.cfb_mini.specs.declared.mini_allocator.MiniAllocator.{MiniAllocator}
use Rattle.cfb_mini.proofs.Longer.{mini_rests_then}
use Rattle.cfb_stream_reads.specs.Content as lower
use Rattle.cfb_stream_reads.specs.declared.ahead.ReadAhead.{ReadAhead}
use Rattle.cfb_stream_reads.specs.Streams.{sectors_in, IsOfLevel, StreamLiesIn}
use Rattle.cfb.specs.Putting.{IsOpenStreamError}
use Rattle.cfb.specs.Streams.{bytes_found, FindsStream, FileHasStream, IsBroken, IsTrueToBytes, IsUnread, IsFileMemoryOrFailed, KeepsStream}
use Rattle.cfb.specs.Views.{ahead_held, links_held, mini_of, most_ahead_of, stream_known, OnlyReadsFile}
use Rattle.cfb.specs.declared.compound_file.CompoundFile.{CompoundFile}
use Rattle.cfb.proofs.HeldLinks.{held_read}
use Rattle.cfb.proofs.StreamBytes.{content_len}
use Rattle.cfb.proofs.Wants.{want_is}

never_both : (e : Error) → IsInvalidPlace e → IsFaultOrInvalidInputIf ⊥ e → ⊥
never_both e place fault = elim place [ inl broken ↦ subst (IsFaultOrInvalidInputIf ⊥) broken fault | inr input ↦ subst (IsFaultOrInvalidInputIf ⊥) input fault ]

pub place_is : (e : Error) → IsInvalidPlace e → IsOpenStreamError e
place_is e = ⊎_elim (λ broken. inl broken) (λ input. inr (inl input))

module _ {F : Type 0} {g : Ghosts F} (old : CompoundFile F g) (text : List ℕ) (answer : Answer) (e : Error) where
  -- why it wasn't found
  pub unfound : IsFileMemoryOrFailed old e ⊎ (answer ≡ refused e) ⊎ ((e ≡ InvalidData) × IsBroken old text) → IsFaultOrInvalidInputIf ⊥ e ⊎ (answer ≡ refused e) ⊎ IsUnread old text e
  unfound = ⊎_elim (λ want. inl (want_is old e want)) (λ why. inr (⊎_elim (λ rule. inl rule) (λ broken. inr (inl broken)) why))

  pub unfound_held : IsFileMemoryOrFailed old e ⊎ (answer ≡ refused e) → IsFaultOrInvalidInputIf ⊥ e ⊎ (answer ≡ refused e)
  unfound_held = ⊎_elim (λ want. inl (want_is old e want)) (λ rule. inr rule)

  -- why it wasn't read
  pub unread : IsFaultOrInvalidInputIf ⊥ e ⊎ IsInvalidPlace e → (IsTrueToBytes old → IsFaultOrInvalidInputIf ⊥ e) → IsFaultOrInvalidInputIf ⊥ e ⊎ (answer ≡ refused e) ⊎ IsUnread old text e
  unread why read = ⊎_elim (λ fault. inl fault) (λ place. inr (inr (inr (place, λ true. never_both e place (read true))))) why

-- all bytes that were read are the whole content
pub all_read : {F : Type 0} {g : Ghosts F} (it : CompoundFile F g) (len : ℕ) (content now : List ℕ) → FileHasStream it len content → now ≡ take len content → now ≡ content
all_read it len content now has is =
    let size = content_len (mini_of it) (links_held it) len content has.lies in
    is ∙ take_all len content (omega (arith, size))

-- it was only read twice
pub rests_twice : {F : Type 0} {g : Ghosts F} (a b c : CompoundFile F g) → OnlyReadsFile a b → OnlyReadsFile b c → OnlyReadsFile a c
rests_twice a b c first second = record {
  mini = mini_rests_then (mini_of a) (mini_of b) (mini_of c) first.mini second.mini;
  letters = second.letters ∙ first.letters;
  validation = second.validation ∙ first.validation;
  sound = second.sound ∙ first.sound;
  most = second.most ∙ first.most;
  held = λ are. second.held (first.held are);
}

-- the file over what a read left of the layer below, and of what was read ahead
abbrev pub read_by : {F : Type 0} {g : Ghosts F} → CompoundFile F g → MiniAllocator F g → ReadAhead → CompoundFile F g
read_by {F} {g} it mini ahead = record it { mini = mini; ahead = ahead }

-- it reads the stream that it read
pub keeps_by : {F : Type 0} {g : Ghosts F} (it : CompoundFile F g) (mini : MiniAllocator F g) (ahead : ReadAhead) (len : ℕ) → OnlyReadsMini (mini_of it) mini → lower.most_of ahead ≡ most_ahead_of it
    → ((content : List ℕ) → lower.SectorsHaveContent (mini_of it) (links_held it) len content → lower.SectorsHaveContent mini (links_held it) len content)
    → ((content : List ℕ) → lower.SectorsHaveContent (mini_of it) (links_held it) len content → lower.IsAheadOf content (ahead_held it) → lower.IsAheadOf content ahead) → KeepsStream len it (read_by it mini ahead)
keeps_by {F} {g} it mini ahead len rests most kept told = record {
  rests = record { mini = rests; letters = refl; validation = refl; sound = refl; most = most; held = held_read (mini_of it) mini rests (stream_known it) (links_held it) };
  links = refl;
  held = refl;
  content = λ content has. record { lies = kept content has.lies; ahead = told content has.lies has.ahead };
}

module _ {F : Type 0} {g : Ghosts F} (old mid new : CompoundFile F g) (text : List ℕ) (len : ℕ) (k : KeepsStream len mid new) (now : List ℕ) (long : length now ≡ len) where
  -- it was found, and the file reads it yet
  pub found_yet : FindsStream old mid text len → FindsStream old new text (length now)
  found_yet f = record {
    entry = f.entry;
    at_path = f.at_path;
    lies = subst (λ l. StreamLiesIn (mini_of old) f.entry.start f.entry.size (sectors_in l)) (sym k.links) f.lies;
    level = subst (λ l. IsOfLevel (mini_of old) f.entry.size l) (sym k.links) f.level;
    has_size = long ∙ f.has_size;
  }

  -- its bytes are those of its sectors
  pub bytes_yet : FileHasStream mid len (bytes_found mid len) → now ≡ bytes_found mid len → now ≡ bytes_found new (length now)
  bytes_yet has is = is ∙ (k.content (bytes_found mid len) has).lies.bytes ∙ ap (bytes_found new) (sym long)
