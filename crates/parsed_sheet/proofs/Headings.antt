-- What the heading of a fresh rule says: its marks, its operation, a declared target, a span and a name within the source.
use Prim.Native.Nat.{ℕ, ◌+◌, ◌≤◌, ◌<◌}
use mathlib.Core.Path.{◌≡◌, refl, subst}
use mathlib.Core.List.{List}
use native.Mathlib.Omega.{arith}
use lib.ListN.{length}
use Rattle.characters.specs.Class.{is_blank}
use Rattle.characters.specs.Whitespace.{byte}
use Rattle.text.specs.Scan.{last_blank}
use Rattle.std.specs.Prelude.{Option, Some, Result, Ok, Err}
use Rattle.area.specs.declared.State.{State}
use Rattle.area.specs.declared.Rule.{Rule}
use Rattle.fault.specs.declared.kinds.LexError.{LexError}
use Rattle.area.specs.declared.StartStateOperation.{StartStateOperation}
use Rattle.area.specs.declared.StartStateOperation.TheVariants.{ReplaceStack, Push, Pop}
use Rattle.rules.specs.declared.TargetState.{TargetState}
use Rattle.rules.specs.declared.Target.{Target}
use Rattle.rules.specs.declared.Label.TheVariants.{Named}
use Rattle.rules.specs.declared.Head.{Head}
use Rattle.rules.specs.declared.Heading.{Heading}
use Rattle.rules.specs.declared.Heading.TheVariants.{Repeated, Fresh}
use Rattle.rules.specs.Heading.{target_operation, target_of, span, label_of, head_unnamed, head_named, heading_of, named_field, name_fields, operation_number}
use Rattle.rules.specs.Heading.{operation_field, target_field}
use Rattle.rules.proofs.Targets.{target_cases, target_from, target_to}
use Rattle.rules.proofs.Heads.{name_long, last_inside, heading_cases}

-- ---- the target

-- the operation is one of 0 to 3, and the target one of m states
abbrev TargetFits : ℕ → Result Target LexError → Type 0
TargetFits m (Ok x) = (operation_field x.state ≤ 3) × (target_field x.state < m)
TargetFits m (Err error) = Unit {0}

operation_few : (x : StartStateOperation) → operation_number x ≤ 3
operation_few ReplaceStack = omega arith
operation_few Push = omega arith
operation_few Pop = omega arith

target_fits : (s : List ℕ) (r t : ℕ) (xs : List State) → 0 < length xs → TargetFits (length xs) (target_of s r t xs)
target_fits s r t xs h =
    target_cases s r t xs (TargetFits (length xs)) (omega arith, h) tt tt (λ _ known. (operation_few (target_operation s r), known))

-- ---- the heading

-- what the heading of a fresh rule says, beside m states
pub record HeadHolds (s : List ℕ) (m : ℕ) (h : Head) : Type 0 where
  pub named : named_field h.name ≤ 1
  pub ordered : h.name_span.start ≤ h.name_span.end
  pub inside : h.name_span.end ≤ length s
  pub name : (name_fields h.name).from + (name_fields h.name).length ≤ length s
  pub operation : operation_field h.target_state ≤ 3
  pub target : target_field h.target_state < m

abbrev HeadingFits : List ℕ → ℕ → Result Heading LexError → Type 0
HeadingFits s m (Err error) = Unit {0}
HeadingFits s m (Ok (Repeated first again)) = Unit {0}
HeadingFits s m (Ok (Fresh b h)) = HeadHolds s m h

module _ (s : List ℕ) (m r t : ℕ) (x : Option TargetState) (p : ℕ) (few : operation_field x ≤ 3) (declared : target_field x < m)
    (from : r < p) (to : p ≤ t) (l : t ≤ length s) where
  unnamed_holds : HeadHolds s m (head_unnamed r x)
  unnamed_holds = record {
    named = omega arith;
    ordered = omega arith;
    inside = omega arith;
    name = omega arith;
    operation = few;
    target = declared;
  }

  named_holds : p + 2 < t → HeadHolds s m (head_named r (span p t) x)
  named_holds long = record {
    named = omega arith;
    ordered = omega arith;
    inside = omega arith;
    name = omega arith;
    operation = few;
    target = declared;
  }

module _ (s : List ℕ) (xs : List State) (some : 0 < length xs) (rs : List Rule) (i t : ℕ) (l : t ≤ length s) where
  module _ (r : ℕ) (x : Target) (b : last_blank s i t ≡ Some r) (g : target_of s r t xs ≡ Ok x) where
    before : r < t
    before = (last_inside (λ k. is_blank (byte s k)) i t r b).1

    fits : TargetFits (length xs) (Ok x)
    fits = subst (TargetFits (length xs)) g (target_fits s r t xs some)

    from : r < x.end
    from = target_from s r t xs before (target_of s r t xs) refl x g

    to : x.end ≤ t
    to = target_to s r t xs before (target_of s r t xs) refl x g

    unnamed : HeadHolds s (length xs) (head_unnamed r x.state)
    unnamed = unnamed_holds s (length xs) r t x.state x.end fits.0 fits.1 from to l

    fresh : label_of s (span x.end t) ≡ Named → HeadHolds s (length xs) (head_named r (span x.end t) x.state)
    fresh named = named_holds s (length xs) r t x.state x.end fits.0 fits.1 from to l (name_long s x.end t named)

  pub heading_holds : (b : ℕ) (h : Head) → heading_of s i t xs rs ≡ Ok (Fresh b h) → HeadHolds s (length xs) h
  heading_holds b h q =
      subst (HeadingFits s (length xs)) q
      (heading_cases s i t xs rs (HeadingFits s (length xs)) (λ _. tt) (λ _ _. tt) unnamed (λ r x b g named _. fresh r x b g named))
