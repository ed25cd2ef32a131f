-- A sheet as a call takes it, and the sheet check (01, Linking, the end).
use Rattle.std.specs.Prelude.{ℕ, ◌+◌, ◌*◌, ◌-◌, Bool, cond, ◌&&◌, List, [], eqb, leb, ltb, length, get_or}
use Rattle.area.specs.declared.State.{State}
use Rattle.area.specs.declared.Rule.{Rule}
use Rattle.area.specs.declared.Expected.{Expected}
use Rattle.area.specs.Records.{state_width, rule_width, entry_width, expected_width, most_states, most_rules}
use Rattle.area.specs.Contents.{contents, state_format, rule_format, entry_format, text_format, expected_format}
use Rattle.area.specs.Lists.{all}
use Rattle.names.specs.Names.{name_of}
use Rattle.parse.specs.Parse.{Contents}
use Rattle.sheet_check.specs.declared.Sizes.{Sizes}

-- the source, areas 1 to 5 and the six counts
pub record SheetBytes : Type 0 where
  pub source : List ℕ
  pub area1 : List ℕ
  pub area2 : List ℕ
  pub area3 : List ℕ
  pub area4 : List ℕ
  pub area5 : List ℕ
  pub counts : List ℕ

abbrev pub sheet_bytes : List ℕ → List ℕ → List ℕ → List ℕ → List ℕ → List ℕ → List ℕ → SheetBytes
sheet_bytes s x1 x2 x3 x4 x5 n = record { source = s; area1 = x1; area2 = x2; area3 = x3; area4 = x4; area5 = x5; counts = n }

-- the bytes of a rule's name: they stand in the source (01, Areas, 2)
abbrev pub name_in : SheetBytes → Rule → List ℕ
name_in b = name_of b.source

-- the count of an area, by its number
abbrev pub count : SheetBytes → ℕ → ℕ
count b j = get_or b.counts (j - 1) 0

-- what the areas hold, as many records of each as it counts
unfoldable pub decoded : SheetBytes → Contents
decoded b = record {
  states = contents state_format b.area1 (count b 1);
  rules = contents rule_format b.area2 (count b 2);
  lists = contents entry_format b.area3 (count b 3);
  text = contents text_format b.area4 (count b 4);
  expected = contents expected_format b.area5 (count b 5);
  faults = [];
}

-- ---- sizes

-- the lengths and the counts of a sheet
abbrev pub sizes_of : SheetBytes → Sizes
sizes_of b = record {
  source = length b.source;
  area1 = length b.area1;
  area2 = length b.area2;
  area3 = length b.area3;
  area4 = length b.area4;
  area5 = length b.area5;
  states = count b 1;
  rules = count b 2;
  entries = count b 3;
  text = count b 4;
  expected = count b 5;
}

-- each area is long enough for its count
unfoldable pub long_enough : Sizes → Bool
long_enough z =
    leb (z.states * state_width) z.area1 && leb (z.rules * rule_width) z.area2
    && leb (z.entries * entry_width) z.area3 && leb z.text z.area4
    && leb (z.expected * expected_width) z.area5

-- 1 to 64 states, and at most 2,048 rules
unfoldable pub good_counts : ℕ → ℕ → Bool
good_counts states rules = leb 1 states && leb states most_states && leb rules most_rules

unfoldable pub good_sizes : Sizes → Bool
good_sizes z = long_enough z && good_counts z.states z.rules

-- ---- records

-- a mark is 0 or 1
abbrev pub mark : ℕ → Bool
mark x = leb x 1

-- a range by its start and end: in order, and inside n
abbrev pub ordered : ℕ → ℕ → ℕ → Bool
ordered start end n = leb start end && leb end n

-- a range by its start and length: inside n
abbrev pub within : ℕ → ℕ → ℕ → Bool
within from len n = leb (from + len) n

-- a state id is declared where there are this many states
abbrev pub declared : ℕ → ℕ → Bool
declared states id = ltb id states

-- how many bytes there are at a place: 1 is the rewritten text, any other the source
abbrev pub text_bytes : Sizes → ℕ → ℕ
text_bytes z place = cond (eqb place 1) z.text z.source

-- the records of a sheet of these sizes
module _ (z : Sizes) where
  unfoldable pub good_state : State → Bool
  good_state x = ordered x.start x.end z.source && mark x.exclusive

  unfoldable pub good_rule : Rule → Bool
  good_rule x =
      mark x.has_id && mark x.named && mark x.place
      && ordered x.span_start x.span_end z.source
      && within x.name_from x.name_length z.source
      && within x.text_from x.text_length (text_bytes z x.place)
      && within x.list_from x.list_count z.entries
      && leb x.operation 3 && declared z.states x.target

  unfoldable pub good_expected : Expected → Bool
  good_expected x = ordered x.start x.end z.source

  -- the states, the rules, the entries of their lists and the expected names
  unfoldable pub good_records : List State → List Rule → List ℕ → List Expected → Bool
  good_records states rules lists expected =
      all good_state states && all good_rule rules && all (declared z.states) lists && all good_expected expected

-- ---- the sheet check

unfoldable pub sheet_check : SheetBytes → Bool
sheet_check b = good_sizes (sizes_of b) && good_records (sizes_of b) (decoded b).states (decoded b).rules (decoded b).lists (decoded b).expected
