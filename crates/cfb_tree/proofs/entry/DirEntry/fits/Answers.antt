use Rattle.std.proofs.Common.{rules}
use Rattle.cfb_tree.proofs.entry.DirEntry.fits.Goals as goal

pub returns : goal.returns
returns c = let fields = c.fit_fields.ensures in let links = c.fit_links.ensures in record {
  name_units = c.fit_two_bytes.ensures;
  name_units_len = search rules;
  name_len = fields.0;
  kind = fields.1;
  color = fields.2;
  left = links.0;
  right = links.1;
  child = links.2;
  clsid_len = search rules;
  state_bits = fields.3;
  created = c.fit_time.ensures;
  modified = c.fit_time-2.ensures;
  start = fields.4;
  size = c.requires;
}
