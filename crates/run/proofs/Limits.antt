-- The limits of the kinds of callers, in 02's numbers: what is within one is at most a seller's, and a kind that has one is a small number.
use mathlib.Core.Path.{◌≡◌, refl}
use mathlib.Core.Bool.{true, false, false≢true}
use Prim.Native.Nat.{ℕ, ◌≤◌, ◌<◌}
use native.Mathlib.Omega.{arith}
use borrow.Author.Tests.{leb-true, eqb-true, le-leb, ne_eqb}
use lib.Dec.{eqb}
use Rattle.std.proofs.lemmas.Bool.{cond_both}
use Rattle.std.specs.Prelude.{Option, Some, None, is_some, unwrap_or}
use Rattle.run.specs.Run.{seller, kiosk, most_bytes, most_kiosk_bytes, limit, within_limit}

-- 4,096 of a seller, 512 of a kiosk, and no other
pub limits : (limit 0 ≡ Some 4096) × (limit 1 ≡ Some 512) × ((kind : ℕ) → 1 < kind → limit kind ≡ None)
unfolding limit
limits = (refl, refl, λ kind h. rw (ne_eqb kind 0 (λ e. omega (arith, h, e)), ne_eqb kind 1 (λ e. omega (arith, h, e))) refl)

-- a limit is reached, and not passed
pub limit_reached : (within_limit (limit 0) 4096 ≡ true) × (within_limit (limit 0) 4097 ≡ false)
    × (within_limit (limit 1) 512 ≡ true) × (within_limit (limit 1) 513 ≡ false)
unfolding limit within_limit
limit_reached = (refl, refl, refl, refl)

-- where n is within a limit, there is one, and n is not above it
pub within_is : (o : Option ℕ) (n : ℕ) → within_limit o n ≡ true → (o ≡ Some (unwrap_or o 0)) × (n ≤ unwrap_or o 0)
unfolding within_limit
within_is None n e = absurd (false≢true e)
within_is (Some most) n e = (refl, leb-true n most e)

module _ (kind : ℕ) where
  -- what holds of each limit, and of none, holds of that of the kind
  limit_cases : (P : Option ℕ → Type 0) → (kind ≡ seller → P (Some most_bytes)) → (kind ≡ kiosk → P (Some most_kiosk_bytes)) → P None → P (limit kind)
  unfolding limit
  limit_cases P of-seller of-kiosk of-none =
      cond_both (eqb kind seller) _ _ P (λ e. of-seller (eqb-true kind seller e))
      (λ _. cond_both (eqb kind kiosk) _ _ P (λ e. of-kiosk (eqb-true kind kiosk e)) (λ _. of-none))

  pub within_low : (n : ℕ) → within_limit (limit kind) n ≡ true → n ≤ most_bytes
  unfolding within_limit
  within_low n =
      limit_cases (λ (o : Option ℕ). within_limit o n ≡ true → n ≤ most_bytes)
      (λ _ e. leb-true n most_bytes e) (λ _ e. omega (arith, leb-true n most_kiosk_bytes e)) (λ e. absurd (false≢true e))

  pub limit_low : (most : ℕ) → limit kind ≡ Some most → most ≤ most_bytes
  unfolding within_limit
  limit_low most e = within_low most (rw e (le-leb most most (omega arith)))

  pub known_low : is_some (limit kind) ≡ true → kind ≤ kiosk
  known_low =
      limit_cases (λ (o : Option ℕ). is_some o ≡ true → kind ≤ kiosk)
      (λ is _. omega (arith, is)) (λ is _. omega (arith, is)) (λ e. absurd (false≢true e))
