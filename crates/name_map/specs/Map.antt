-- A map: names, and entries that say where a name stands in them and which id it has; and the map check, number 7 (01, Linking).
use Rattle.std.specs.Prelude.{ℕ, ◌+◌, ◌*◌, ◌/◌, ◌%◌, Bool, cond, not, ◌&&◌, List, [], ◌∷◌, map, length, ◌==◌, nat_le, nat_lt, slice_index_or, Some, None}
use Rattle.std.specs.Prelude as Code
use Rattle.std.proofs.Math.Option.{Option, none, some}
use Rattle.text.specs.Range.{part, same_bytes}
use Rattle.characters.specs.Walk.{first}
use Rattle.area.specs.Bytes.{two, bytes, field_from}
use Rattle.area.specs.declared.AreaName.TheVariants.{Entries}
use Rattle.area.specs.Contents.{Format, contents}
use Rattle.area.specs.Lists.{all, all_below}
use Rattle.sheet_check.specs.SheetCheck.{within}
use Rattle.name_map.specs.declared.MapEntry.{MapEntry}

-- ---- the entries as bytes

-- bytes of an entry, and the most entries (01, Numbers given at the counter, 7)
abbrev pub map_width : ℕ
map_width = 6

abbrev pub most_entries : ℕ
most_entries = 2048

-- from, length, id (01, Linking)
unfoldable pub map_entry_fields : MapEntry → List ℕ
map_entry_fields x = x.name_from ∷ x.name_length ∷ x.id ∷ []

unfoldable pub map_entry_of : (ℕ → ℕ) → MapEntry
map_entry_of f = record { name_from = f 0; name_length = f 1; id = f 2 }

-- entry k, read from the bytes
unfoldable pub map_entry_at : List ℕ → ℕ → MapEntry
map_entry_at l k = map_entry_of (field_from l (k * map_width))

-- the entries of chunks, each of so many bytes
abbrev pub read_each : List (List ℕ) → List MapEntry
read_each chunks = map (λ bytes. map_entry_at bytes 0) chunks

-- a map is no area of a parse: its entries are never appended, so that no one asks which area is full
abbrev pub map_format : Format MapEntry
map_format = record { name = Entries; write = λ x. bytes two (map_entry_fields x); width = map_width; most = most_entries; read = map_entry_at; blank = map_entry_of (λ _. 0) }

-- how many whole entries there are
abbrev pub entry_count : List ℕ → ℕ
entry_count entries = length entries / map_width

-- ---- a map as a list

-- the bytes of a name, and its id
pub record Entry : Type 0 where
  pub name : List ℕ
  pub id : ℕ

abbrev pub entry : List ℕ → ℕ → Entry
entry n i = record { name = n; id = i }

-- what an entry says
unfoldable pub entry_of : List ℕ → MapEntry → Entry
entry_of names x = entry (part names x.name_from (x.name_from + x.name_length)) x.id

-- the map that the names and the entries stand for
unfoldable pub entries_of : List ℕ → List ℕ → List Entry
entries_of names entries = map (entry_of names) (contents map_format entries (entry_count entries))

-- entry j; past the last one with an empty name
abbrev pub nth : List Entry → ℕ → Entry
nth es j = slice_index_or es j (entry [] 0)

-- the first entry of that name; the number of entries where there is none
unfoldable pub find_entry : List Entry → List ℕ → ℕ
find_entry es name = first (λ j. same_bytes (nth es j).name name) 0 (length es)

-- an answer of the code, as an option of the definitions
abbrev pub option_of : Code.Option ℕ → Option ℕ
option_of (Some x) = some x
option_of None = none

-- the same as an answer: none where no entry has the name
unfoldable pub found_entry : List Entry → List ℕ → Code.Option ℕ
found_entry es name = cond (nat_lt (find_entry es name) (length es)) (Some (find_entry es name)) None

-- the id of entry j; none past the last
unfoldable pub id_at : List Entry → ℕ → Option ℕ
id_at es j = cond (nat_lt j (length es)) (some (nth es j).id) none

-- the id of the entry with that name (01, Linking)
unfoldable pub id_of : List Entry → List ℕ → Option ℕ
id_of es name = id_at es (find_entry es name)

-- ---- the map check

-- two entries at different places have different names
unfoldable pub distinct : List Entry → Bool
distinct es = all_below (λ j. all_below (λ i. not (same_bytes (nth es i).name (nth es j).name)) j) (length es)

-- a name inside n bytes of names
unfoldable pub name_inside : ℕ → MapEntry → Bool
name_inside n x = within x.name_from x.name_length n

-- number 7 where it fails
unfoldable pub map_check : List ℕ → List ℕ → Bool
map_check names entries =
    (length entries % map_width == 0) && nat_le (entry_count entries) most_entries
    && all (name_inside (length names)) (contents map_format entries (entry_count entries))
    && distinct (entries_of names entries)
