-- A copy is repaired, and a strict reader takes it where its root has its name.
use Rattle.std.proofs.Common.{◌≡◌, ℕ, ◌*◌, ◌≤◌, List, inr, length, ap, sym, subst, ◌∙◌, arith, ⊎_elim}
use Rattle.std.specs.Prelude.{◌⊎◌, codes, slice_get, IfSome, Some}
use Rattle.std.specs.List.{AllByRecursion}
use Rattle.cfb_medium.specs.Versions.{sector_len, stream_len_mask}
use Rattle.cfb_spec.specs.Means.{IsStrictlyOpenable}
use Rattle.cfb_ownership.specs.Held.{OwnerHasStream, OwnersHoldTree}
use Rattle.cfb_ownership.specs.LiveFile.{LiveFile}
use Rattle.cfb_ownership.specs.Owners.{mini_stream_owner, Owners}
use Rattle.cfb_ownership.proofs.HoldsById.{each_part, IsPart}
use Rattle.cfb_ownership.proofs.StrictIs.{strict_is, IsStrictIn}
use Rattle.cfb_siblings.proofs.Lists.{all_map}
use Rattle.cfb_tree.specs.Directory.{black, kind_unallocated, red, Entry, HasName}
use Rattle.cfb_tree.specs.Entries.{IsBlackAt, IsColored}
use Rattle.cfb_tree.specs.Names.{CaseTable}
use Rattle.cfb_tree.specs.Tree.{Tree}
use Rattle.cfb_copying.specs.Copied.{color_then, CountsTables, HasRootName, IsFileCopied, IsRepaired}
use Rattle.cfb_copying.proofs.CopiedMeans.{copy_held, copy_ids, copy_root, now, same_room}
use Rattle.cfb_copying.proofs.CopiedTight.{copy_tight, tight_layout}
use Rattle.cfb_copying.proofs.Repaired.{color_used}
use Rattle.cfb_copying.proofs.Restarted.{repaired, same_name, some_again}

module _ (s t : LiveFile) (who : Owners) (own : ℕ → List ℕ) (letters : CaseTable) (tree : Tree) (h : OwnersHoldTree s who letters tree) (c : IsFileCopied s who h.ids t own) where
  -- an entry in use is black
  black_now : (id : ℕ) (e : Entry) → slice_get s.entries id ≡ Some e → (e.kind ≡ kind_unallocated → ⊥) → IsBlackAt t.entries id × IsColored t.entries id
  black_now id e found used =
      let next = repaired s.entries c.between t.entries h.ids own c.root_size c.restarts c.repairs id e found in
      let is : color_then e ≡ black = color_used e used in (
        subst (λ o. IfSome o (λ x. x.color ≡ black)) (sym next.2) is,
        subst (λ o. IfSome o (λ x. ((x.color ≡ red) ⊎ (x.color ≡ black)) × (x.color ≡ red → IsBlackAt t.entries x.left × IsBlackAt t.entries x.right))) (sym next.2)
            (inr is, λ wrong. let both : black ≡ red = sym is ∙ wrong in absurd (omega (arith, both))),
      )

  root_used : h.root.kind ≡ kind_unallocated → ⊥
  root_used none = let kind = h.kept.root_kind in omega (arith, kind, none)

  each_black : AllByRecursion (λ id. IsBlackAt t.entries id × IsColored t.entries id) h.ids
  each_black =
      all_map (IsPart s.entries (OwnerHasStream s who)) (λ id. IsBlackAt t.entries id × IsColored t.entries id) h.ids
      (λ id part. black_now id part.0 part.1 (λ none. ⊎_elim (λ storage. omega (arith, storage, none)) (λ stream. let kind = stream.0 in omega (arith, kind, none)) part.2))
      (each_part s.entries (OwnerHasStream s who) tree.content h.children h.ids h.holds)

  -- colours are right, and the root has this size
  pub copy_repaired : (length (who.sectors mini_stream_owner) * sector_len s.version ≤ stream_len_mask s.version → c.root_size ≡ length (who.sectors mini_stream_owner) * sector_len s.version)
      → IsRepaired t.bytes (copy_tight s t who own letters tree h c).layout
  copy_repaired sized =
      let room = same_room s t who own letters tree h c in
      let root = copy_root s t who own letters tree h c in
      subst (IsRepaired t.bytes) (sym (tight_layout s t who own letters tree h c)) (record {
        sized = λ small.
            ap (λ r. r.size) root ∙ sized (subst (λ n. n ≤ stream_len_mask s.version) room (subst (λ v. length (own mini_stream_owner) * sector_len t.version ≤ stream_len_mask v) c.version small)) ∙ sym room;
        root_black = ap (λ r. r.color) root ∙ color_used h.root root_used;
        blacks = subst (λ d. AllByRecursion (IsBlackAt d) (copy_held s t who own letters tree h c).ids) c.entries
            (subst (AllByRecursion (IsBlackAt t.entries)) (sym (copy_ids s t who own letters tree h c))
            (all_map (λ id. IsBlackAt t.entries id × IsColored t.entries id) (IsBlackAt t.entries) h.ids (λ id both. both.0) each_black));
      })

  module _ (counted : CountsTables t own) (named : HasRootName s.entries) where
    strict_now : IsStrictIn t (now s t who own letters tree h c) h.ids
    strict_now = record {
      directory_count = counted.directory;
      fat_count = counted.told.fat_count;
      mini_fat_count = counted.mini_fat;
      difat_count = counted.told.difat_count;
      stop = counted.ends.stop;
      whole = counted.ends.whole;
      named = some_again s.entries c.between t.entries h.ids own c.root_size c.restarts c.repairs (λ root. HasName root (codes "Root Entry")) (λ root. HasName root (codes "Root Entry"))
          (λ e start n was. same_name e start (color_then e) n (codes "Root Entry") was) 0 named;
      root_color = (black_now 0 h.root h.kept.root_found root_used).0;
      colors = all_map (λ id. IsBlackAt t.entries id × IsColored t.entries id) (IsColored t.entries) h.ids (λ id both. both.1) each_black;
    }

    pub copy_strict : IsStrictlyOpenable letters t.bytes
    copy_strict =
        let held = copy_held s t who own letters tree h c in
        (strict_is t (now s t who own letters tree h c) letters tree held).0 (subst (IsStrictIn t (now s t who own letters tree h c)) (sym (copy_ids s t who own letters tree h c)) strict_now)
