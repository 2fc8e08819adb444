use Rattle.std.proofs.Common.{rules}
use Rattle.cfb_sectors.proofs.header.Header.fits.Goals as goal

pub returns : goal.returns
returns c = let some = c.fit_their_type.ensures in record {
  directory_count = some.0;
  fat_count = some.1.0;
  first_directory = some.1.1.0;
  first_mini_fat = some.1.1.1.0;
  mini_fat_count = some.1.1.1.1.0;
  first_difat = some.1.1.1.1.1.0;
  difat_count = some.1.1.1.1.1.1.0;
  difat = c.fit_their_type-2.ensures;
  difat_len = search rules;
}
