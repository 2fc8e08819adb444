use Rattle.std.proofs.Common.{arith, ◌≡◌, ◌∷◌, ◌++◌, [], ap, refl, sym, take, ◌∙◌}
use Rattle.cfb_medium.specs.Memory.{memory_bytes}
use Rattle.cfb_sectors.specs.Held.{count_of}
use Rattle.cfb_sectors.specs.Sectors.{fat_in}
use Rattle.cfb_creating.specs.NewFile.{new_file}
use Rattle.cfb_fat.specs.Tables.{fat_of, sectors_of}
use Rattle.cfb_copying.proofs.NewTarget.{first_counted, never_earlier, new_begun, only_memory}
use Rattle.cfb_copying.proofs.beginning.begin_file.Goals as goal

pub returns-in-Ok-clause-begun : goal.returns-in-Ok-clause-begun
returns-in-Ok-clause-begun c =
    let v = c.args.version in
    let it = c.in-Ok.allocator in
    let did = c.in-Ok.ensures in
    let made = c.new-sectors.ensures in
    let sectors = c.new-sectors.result in
    let held : memory_bytes sectors.inner ≡ new_file v = ap memory_bytes made.medium ∙ c.from_bytes.ensures.bytes ∙ c.in_ok-bytes.ensures.bytes in
    let tables : c.push.new.self.items ≡ 0 ∷ [] = c.in_ok-push.ensures.items ∙ ap (λ l. l ++ 0 ∷ []) c.new-fat_sectors.ensures.items in
    let fat : fat_of it ≡ take (count_of (sectors_of it)) (fat_in v (new_file v) (0 ∷ [])) =
    did.fat refl ∙ ap (λ n. take n (fat_in sectors.version (memory_bytes sectors.inner) c.push.new.self.items)) (sym did.sectors.count) ∙ ap (λ u. take (count_of (sectors_of it)) (fat_in u (memory_bytes sectors.inner) c.push.new.self.items)) made.version
    ∙ ap (λ l. take (count_of (sectors_of it)) (fat_in v l c.push.new.self.items)) held ∙ ap (λ l. take (count_of (sectors_of it)) (fat_in v (new_file v) l)) tables in
    new_begun v it (did.sectors.failed ∙ made.not_failed) refl (did.sectors.version ∙ made.version) (did.sectors.bytes refl ∙ held) (did.tables.0 ∙ c.new.ensures.items) (did.tables.1 ∙ tables) fat

pub returns-clause-errors : goal.returns-clause-errors
returns-clause-errors c =
    let did = c.in-Err.ensures in
    let e = c.in-Err.error in
    let made = c.new-sectors.ensures in
    let sectors = c.new-sectors.result in
    let bytes = c.in_ok-bytes.bytes in
    let tables : c.push.new.self.items ≡ 0 ∷ [] = c.in_ok-push.ensures.items ∙ ap (λ l. l ++ 0 ∷ []) c.new-fat_sectors.ensures.items in
    let live = made.not_failed in
    only_memory e did.errors
    (λ is. did.missing is (first_counted c.args.version bytes.items c.push.new.self.items c.len-len.result (count_of sectors) c.in_ok-bytes.ensures.bytes (c.len-len.ensures ∙ bytes.ok.0) made.count tables))
    (λ is. let wrong = (did.cause sectors.inner tt).device is (omega arith) in omega (arith, wrong))
    (λ is. never_earlier sectors.failed live ((did.cause sectors.inner tt).earlier is))
