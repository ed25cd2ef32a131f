-- A list of records in an area, and what it is to append to it and to insert into it (01, Areas).
-- Assumes nothing.
use Rattle.std.specs.Prelude.{Result, Ok, Err, ◌≡◌, Bool, cond, ◌&&◌, List, [], ◌∷◌, ◌++◌, ℕ, ◌+◌, ◌*◌, ◌-◌, ◌≤◌, leb, length, take, drop}
use Rattle.std.proofs.lemmas.List.Edits.{sets}
use Rattle.area.specs.declared.AreaName.{AreaName}
use Rattle.area.specs.declared.AreaName.TheVariants.{Text}
use Rattle.area.specs.declared.AreaFull.{AreaFull}
use Rattle.area.specs.Bytes.{bytes, pad}
use Rattle.area.specs.Records.{most_others}

-- m records of w bytes more, behind n of them, pass neither the limit nor the cap bytes of the area (01, Numbers given at the counter, 4)
unfoldable pub room : ℕ → ℕ → ℕ → ℕ → ℕ → Bool
room w limit cap n m = leb (n + m) limit && leb ((n + m) * w) cap

-- l is an area of cap bytes: first the n records xs, at most limit of them and each of w bytes by f, then zeros (01, Areas)
pub record Area {A : Type 0} (f : A → List ℕ) (w limit cap : ℕ) (l : List ℕ) (n : ℕ) (xs : List A) : Type 0 where
  pub count : n ≡ length xs
  pub is : l ≡ pad cap (bytes f xs)
  pub few : n ≤ limit
  pub fits : n * w ≤ cap

-- a byte as a record of one byte
abbrev pub one : ℕ → List ℕ
one b = b ∷ []

-- the area of text, of which each byte is a record (01, Areas, 4)
abbrev pub TextArea : ℕ → List ℕ → ℕ → List ℕ → Type 0
TextArea cap l n xs = Area one 1 most_others cap l n xs

-- ---- to append

-- there is no room in the area
abbrev pub full : AreaName → AreaFull
full name = record { 0 = name }

-- m records, of the bytes v, are appended behind n in the area l of that name: the answer r, and the area e afterwards. All of v is written,
-- or nothing (01, Numbers given at the counter, 4)
pub record Pushed (name : AreaName) (w limit m : ℕ) (v l : List ℕ) (n : ℕ) (r : Result ℕ AreaFull) (e : List ℕ) : Type 0 where
  pub says : r ≡ cond (room w limit (length l) n m) (Ok (n + m)) (Err (full name))
  pub leaves : e ≡ cond (room w limit (length l) n m) (sets l (n * w) v) l

-- the same for text, of which each byte is a record
abbrev pub PushedText : List ℕ → List ℕ → ℕ → Result ℕ AreaFull → List ℕ → Type 0
PushedText v l n r e = Pushed Text 1 most_others (length v) v l n r e

-- ---- to insert

-- x at the place p of a list, and the elements from there on behind it (01, Areas, the end)
unfoldable pub insert_at : {A : Type 0} → ℕ → A → List A → List A
insert_at p x xs = take p xs ++ x ∷ drop p xs

-- the first m bytes of l are moved up by w bytes, over what stood there, and v takes their place at the front
unfoldable pub move_up : ℕ → ℕ → List ℕ → List ℕ → List ℕ
move_up w m v l = v ++ take m l ++ drop (m + w) l

-- the bytes v as record p of n, each of w bytes: the records from there on move up (01, Areas, the end)
unfoldable pub inserted : ℕ → ℕ → ℕ → List ℕ → List ℕ → List ℕ
inserted w p n v l = take (p * w) l ++ move_up w ((n - p) * w) v (drop (p * w) l)
