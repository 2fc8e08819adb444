use Rattle.std.proofs.Common.{◌≡◌, ◌++◌, ap, ◌∙◌}
use Rattle.cfb_sectors.specs.Header.{header_bytes, HasFields}
use Rattle.cfb_sectors.specs.HeaderViews.{fields_of}
use Rattle.cfb_sectors.proofs.Fields.{again, if_again, if_refused, if_taken}
use Rattle.cfb_sectors.proofs.header.header_again.Goals as goal

written : (c : goal.After-drop-bytes-2) → HasFields (fields_of c.args.header) c.as_slice-reader.result.now
written c =
    let h = fields_of c.args.header in
    let whole : c.as_slice-reader.result.now ≡ header_bytes h =
    c.as_slice-reader.ensures.value ∙ c.in_ok-write_to.ensures.ok ∙ ap (λ xs. xs ++ header_bytes h) c.new-bytes.ensures.items in
    again h c.as_slice-reader.result.now c.fits.ensures whole

pub returns-clause-same : goal.returns-clause-same
returns-clause-same c = if_again _ _ _ (written c) c.read_from.ensures.read

pub returns-clause-taken : goal.returns-clause-taken
returns-clause-taken c = if_taken _ _ _ _ (written c) c.read_from.ensures.whole

pub returns-clause-errors : goal.returns-clause-errors
returns-clause-errors c = if_refused _ _ _ _ (written c) c.read_from.ensures.whole c.read_from.ensures.errors
