-- What an area holds, read back from its bytes: the list of its first n records (01, Areas).
use Rattle.std.specs.Prelude.{Result, Ok, Err, ℕ, zero, suc, ◌*◌, ◌≤◌, ◌≡◌, cond, List, [], ◌∷◌, ◌++◌, length, get_or, drop}
use Rattle.std.proofs.Math.Option.{Option, none, some}
use Rattle.area.specs.declared.State.{State}
use Rattle.area.specs.declared.Rule.{Rule}
use Rattle.area.specs.declared.Expected.{Expected}
use Rattle.area.specs.declared.Fault.{Fault}
use Rattle.area.specs.declared.AreaName.{AreaName}
use Rattle.area.specs.declared.AreaName.TheVariants as N
use Rattle.area.specs.declared.AreaFull.{AreaFull}
use Rattle.area.specs.Bytes.{bytes, pad}
use Rattle.area.specs.Areas.{Area, one, room, full}
use Rattle.area.specs.Records.{state_bytes, rule_bytes, entry_bytes, expected_bytes, fault_bytes, state_at, rule_at, entry_at, expected_at, fault_at}
use Rattle.area.specs.Records.{state_of, rule_of, expected_of, fault_of, state_width, rule_width, entry_width, expected_width, fault_width}
use Rattle.area.specs.Records.{most_states, most_rules, most_others}

-- f 0 up to f (n - 1)
unfoldable pub list_of : {A : Type 0} → (ℕ → A) → ℕ → List A
list_of f zero = []
list_of f (suc n) = list_of f n ++ (f n ∷ [])

-- which area it is, and how its records are written and read: a record's bytes and their number, how many there may be, record k of an area's bytes,
-- and the record whose fields are all 0
pub record Format (A : Type 0) : Type 0 where
  pub name : AreaName
  pub write : A → List ℕ
  pub width : ℕ
  pub most : ℕ
  pub read : List ℕ → ℕ → A
  pub blank : A

-- the six areas (01, Areas)
abbrev pub state_format : Format State
state_format = record { name = N.States; write = state_bytes; width = state_width; most = most_states; read = state_at; blank = state_of (λ _. 0) }

abbrev pub rule_format : Format Rule
rule_format = record { name = N.Rules; write = rule_bytes; width = rule_width; most = most_rules; read = rule_at; blank = rule_of (λ _. 0) }

abbrev pub entry_format : Format ℕ
entry_format = record { name = N.Entries; write = entry_bytes; width = entry_width; most = most_others; read = entry_at; blank = 0 }

abbrev pub text_format : Format ℕ
text_format = record { name = N.Text; write = one; width = 1; most = most_others; read = λ l k. get_or l k 0; blank = 0 }

abbrev pub expected_format : Format Expected
expected_format = record {
  name = N.Expected;
  write = expected_bytes;
  width = expected_width;
  most = most_others;
  read = expected_at;
  blank = expected_of (λ _. 0);
}

abbrev pub fault_format : Format Fault
fault_format = record { name = N.Faults; write = fault_bytes; width = fault_width; most = most_others; read = fault_at; blank = fault_of (λ _. 0) }

-- a format of the area of that name, whose records all have that many bytes, and of which an area may have so many. Both are small, so that their
-- product cannot wrap
pub record Sized {A : Type 0} (F : Format A) (name : AreaName) (width most : ℕ) : Type 0 where
  pub name_is : name ≡ F.name
  pub width_is : width ≡ F.width
  pub most_is : most ≡ F.most
  pub narrow : F.width ≤ 28
  pub few : F.most ≤ 65535
  pub wide : (x : A) → length (F.write x) ≡ F.width

-- the first n records of the area l
unfoldable pub contents : {A : Type 0} → Format A → List ℕ → ℕ → List A
contents F l n = list_of (F.read l) n

-- the records of a list in an area of cap bytes, and zeros behind them
abbrev pub laid : {A : Type 0} → Format A → ℕ → List A → List ℕ
laid F cap xs = pad cap (bytes F.write xs)

-- records over the front of an area; the bytes behind them stay
unfoldable pub relaid : {A : Type 0} → Format A → List ℕ → List A → List ℕ
relaid F l xs = bytes F.write xs ++ drop (length xs * F.width) l

-- the area l has n records, and zeros behind them
pub record Held {A : Type 0} (F : Format A) (l : List ℕ) (n : ℕ) : Type 0 where
  pub area : Area F.write F.width F.most (length l) l n (contents F l n)

-- the records ys behind the records xs, in an area of cap bytes; none where they do not fit or pass the limit (01, number 4)
unfoldable pub append : {A : Type 0} → Format A → ℕ → List A → List A → Option (List A)
append F cap ys xs = cond (room F.width F.most cap (length xs) (length ys)) (some (xs ++ ys)) none

-- the records that an answer leaves in the area e
abbrev pub left_by : {A : Type 0} → Format A → List ℕ → Result ℕ AreaFull → Option (List A)
left_by F e (Ok m) = some (contents F e m)
left_by F e (Err x) = none

-- f of the n records of the area l stands in the area e, which has as many bytes: r is their number, or that the area is full where f gives none
pub record Grows {A : Type 0} (F : Format A) (f : List A → Option (List A)) (l : List ℕ) (n : ℕ) (r : Result ℕ AreaFull) (e : List ℕ) : Type 0 where
  pub says : f (contents F l n) ≡ left_by F e r
  pub held : (m : ℕ) → r ≡ Ok m → Held F e m
  pub names : (x : AreaFull) → r ≡ Err x → x ≡ full F.name
  pub long : length e ≡ length l
