-- Where a stream that gets other bytes is refused as full.
use Rattle.std.proofs.Common.{◌≡◌, ◌⊎◌, inl, inr, ℕ, ◌+◌, ◌-◌, ◌<◌, length, ◌∙◌}
use Rattle.std.specs.Prelude.{Option}
use Rattle.cfb_medium.specs.declared.error.Error.{Error}
use Rattle.cfb_medium.specs.declared.error.Error.TheVariants.{Full}
use Rattle.cfb_medium.specs.declared.medium.ReadMedium.{Ghosts}
use Rattle.cfb_mini.specs.Views.{MiniMatchesBytes}
use Rattle.cfb_ownership.specs.Owners.{Owners}
use Rattle.cfb_tree.specs.Paths.{Path}
use Rattle.cfb_tree.specs.Tree.{Tree}
use Rattle.cfb_stream_writes.proofs.Stretching.{lacks_resting}
use Rattle.cfb.specs.Putting.{HasNoRoomAt, IsOpenStreamError}
use Rattle.cfb.specs.Streams.{IsFileMemoryOrFailed}
use Rattle.cfb.specs.Views.{mini_of, OnlyReadsFile}
use Rattle.cfb.specs.Writing.{FindsWritten, LacksRoomAt}
use Rattle.cfb.specs.declared.compound_file.CompoundFile.{CompoundFile}

module _ {F : Type 0} {g : Ghosts F} where
  -- nor is a stream that isn't found
  pub never_full : (it : CompoundFile F g) (e : Error) → IsFileMemoryOrFailed it e ⊎ IsOpenStreamError e → e ≡ Full → ⊥
  never_full it e why is = elim why [
    | inl want ↦ elim want [ inl memory ↦ absurd (cc) | inr failed ↦ let kind = failed.0 in absurd (cc) ]
    | inr rule ↦ elim rule [ inl broken ↦ absurd (cc) | inr rest ↦ elim rest [ inl input ↦ absurd (cc) | inr missing ↦ absurd (cc) ] ]
  ]

  -- numbers were missing before the stream was found
  pub full_at : (old mid : CompoundFile F g) → OnlyReadsFile old mid → MiniMatchesBytes (mini_of old) → (path : Option Path) (tree : Tree) (id was len : ℕ) (who : Owners) → FindsWritten old mid path tree id was who → LacksRoomAt id len mid → HasNoRoomAt old path tree len
  full_at old mid r is path tree id was len who found lacks = record {
    names = found.names;
    at_path = found.at_path;
    content = found.content;
    answer = found.answer;
    lacks = lacks_resting (mini_of old) (mini_of mid) (length found.content) len is r.mini (lacks found.names tree found.content found.written);
  }
