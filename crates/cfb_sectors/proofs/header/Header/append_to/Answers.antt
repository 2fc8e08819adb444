use Rattle.std.proofs.Common.{◌≡◌, ◌++◌, ◌∷◌, [], replicate, ap, sym, ◌∙◌, append_assoc}
use Rattle.std.specs.Int.{w16, to_le_bytes}
use Rattle.std.specs.List.{flat_map}
use Rattle.cfb_medium.specs.Numbers.{number_bytes}
use Rattle.cfb_medium.specs.Versions.{major, sector_shift}
use Rattle.cfb_sectors.specs.Header.{header_bytes, signature}
use Rattle.cfb_sectors.specs.HeaderViews.{fields_of}
use Rattle.cfb_sectors.proofs.Appending.{appended_5, header_parts, on_ok, Begins-append, Begins-then}
use Rattle.cfb_sectors.proofs.header.Header.append_to.Goals as goal

-- what stands in the list once all but the DIFAT entries were appended
before_difat : (c : goal.After-push_u32s-2) → let h = fields_of c.args.self.now in c.push_u32s.new.out.items ≡ c.args.out.now.items
    ++ (signature ++ replicate 16 0 ++ flat_map (to_le_bytes w16) (0x3E ∷ major h.version ∷ 0xFFFE ∷ sector_shift h.version ∷ 6 ∷ []) ++ replicate 6 0
    ++ number_bytes (h.directory_count ∷ h.fat_count ∷ h.first_directory ∷ 0 ∷ 4096 ∷ h.first_mini_fat ∷ h.mini_fat_count ∷ h.first_difat ∷ h.difat_count ∷ []))
before_difat c =
    appended_5 c.args.out.now.items c.extend_from_slice.new.self.items c.push_zeros.new.out.items c.push_u16s.new.out.items c.push_zeros-2.new.out.items c.push_u32s.new.out.items
    _ _ _ _ _ c.in_ok-extend_from_slice.ensures.items c.in_ok-push_zeros.ensures.ok
    (rw (c.number.ensures, c.sector_shift.ensures) at c.in_ok-push_u16s.ensures.ok) c.in_ok-push_zeros-2.ensures.ok c.in_ok-push_u32s.ensures.ok

pub returns-clause-ok : goal.returns-clause-ok
returns-clause-ok c =
    let first = c.args.out.now.items in
    let before = c.push_u32s.new.out.items in
    let end = c.push_u32s-2.new.out.items in
    let h = fields_of c.args.self.now in
    on_ok c.push_u32s-2.result (end ≡ before ++ number_bytes h.difat) (end ≡ first ++ header_bytes h)
    (λ last. last ∙ ap (λ xs. xs ++ number_bytes h.difat) (before_difat c) ∙ append_assoc first _ (number_bytes h.difat) ∙ ap (λ xs. first ++ xs) (sym (header_parts h)))
    c.push_u32s-2.ensures.ok

pub returns-clause-kept : goal.returns-clause-kept
returns-clause-kept c = Begins-then _ _ _ (Begins-append _ _ _ (before_difat c)) c.push_u32s-2.ensures.kept
