-- What a `Header` shows.
use Rattle.cfb_sectors.specs.declared.header.Header.{Header}
use Rattle.cfb_sectors.specs.Header.{HeaderFields}

-- what a `Header` says
abbrev pub fields_of : Header → HeaderFields
fields_of h = record {
  version = h.version;
  directory_count = h.num_dir_sectors;
  fat_count = h.num_fat_sectors;
  first_directory = h.first_dir_sector;
  first_mini_fat = h.first_minifat_sector;
  mini_fat_count = h.num_minifat_sectors;
  first_difat = h.first_difat_sector;
  difat_count = h.num_difat_sectors;
  difat = h.initial_difat_entries;
}
