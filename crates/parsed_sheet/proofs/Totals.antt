-- Sums over the places of a list, and the bytes of the names of all states.
use mathlib.Core.Path.{◌≡◌, refl, ap, ap₂, ◌∙◌}
use mathlib.Core.List.{List, [], ◌∷◌, ◌++◌}
use Prim.Native.Nat.{ℕ, zero, suc, ◌+◌, ◌*◌, ◌-◌, ◌<◌}
use native.Mathlib.Omega.{arith}
use native.Mathlib.Numerals.{add-one}
use lib.ListN.{length, length-append, get_or-append}
use lib.Seq.{get_or-append_seam}
use Rattle.area.specs.declared.State.{State}
use Rattle.area.specs.Records.{nth_state, state_of}

-- f 0 up to f (n - 1), added up
unfoldable pub total : (ℕ → ℕ) → ℕ → ℕ
total f zero = 0
total f (suc n) = total f n + f n

total_same : (f g : ℕ → ℕ) (n : ℕ) → ((k : ℕ) → k < n → f k ≡ g k) → total f n ≡ total g n
unfolding total
total_same f g zero h = refl
total_same f g (suc n) h = ap₂ (λ (a b : ℕ). a + b) (total_same f g n (λ k q. h k (omega arith))) (h n (omega arith))

-- a number that is added each time
pub total_plus : (c : ℕ) (f : ℕ → ℕ) (n : ℕ) → total (λ k. c + f k) n ≡ n * c + total f n
unfolding total
total_plus c f zero = omega arith
total_plus c f (suc n) = omega (arith, total_plus c f n)

-- ---- the names of states

-- how many bytes a name has
abbrev pub name_length : State → ℕ
name_length x = x.end - x.start

-- the bytes of all names
unfoldable pub name_bytes : List State → ℕ
name_bytes xs = total (λ k. name_length (nth_state xs k)) (length xs)

pub names_none : name_bytes [] ≡ 0
unfolding name_bytes total
names_none = refl

-- one state more
pub names_more : (xs : List State) (x : State) → name_bytes (xs ++ (x ∷ [])) ≡ name_bytes xs + name_length x
unfolding name_bytes total
names_more xs x =
    let d = state_of (λ _. 0) in
    let f : ℕ → ℕ = λ k. name_length (nth_state (xs ++ (x ∷ [])) k) in
    let g : ℕ → ℕ = λ k. name_length (nth_state xs k) in
    let same : (k : ℕ) → k < length xs → f k ≡ g k = λ k h. ap name_length (get_or-append xs (x ∷ []) d k h) in
    let before : total f (length xs) ≡ total g (length xs) = total_same f g (length xs) same in
    let last : f (length xs) ≡ name_length x = ap name_length (get_or-append_seam xs x [] d) in
    let z : length (xs ++ (x ∷ [])) ≡ suc (length xs) = length-append xs (x ∷ []) ∙ add-one (length xs) in
    ap (total f) z ∙ ap₂ (λ (a b : ℕ). a + b) before last
