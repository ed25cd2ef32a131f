-- The record of a rule: a law for each way through. The position that the verdict is asked of is the length of the list that the area holds.
use mathlib.Core.Path.{◌≡◌}
use mathlib.Core.Bool.{Bool, true, false}
use mathlib.Core.List.{List, [], ◌∷◌}
use Prim.Native.Nat.{ℕ}
use lib.ListN.{length}
use Rattle.std.specs.Prelude.{Result, Ok, Err}
use Rattle.area.specs.declared.Rule.{Rule}
use Rattle.area.specs.declared.AreaFull.{AreaFull}
use Rattle.area.specs.declared.AreaName.TheVariants as N
use Rattle.area.specs.Areas.{Pushed}
use Rattle.area.specs.Records.{rule_bytes, rule_width, most_rules}
use Rattle.area.specs.Contents.{append, contents, rule_format, Grows, Held}
use Rattle.area.proofs.Contents.{rule_sound, contents-length, held_push}
use Rattle.fault.specs.declared.Stop.{Stop}
use Rattle.fault.specs.declared.Stop.TheVariants.{Fault, Full}
use Rattle.fault.specs.Kinds.{error_at}
use Rattle.fault.specs.declared.kinds.LexErrorKind.TheVariants.{RegexError}
use Rattle.fault.specs.Step.{Does, outcome}
use Rattle.fault.proofs.Steps.{does_go, does_bad, does_full, written_next, written_full}
use Rattle.rules.specs.Rules.{refuses, record_rule}

module _ (verdicts : List ℕ) (i e : ℕ) (x : Rule) (l : List ℕ) (n : ℕ) (h : Held rule_format l n) (r : Bool) (q : r ≡ refuses verdicts n) where
  abbrev Done : List ℕ → Result ℕ Stop → ℕ → Type 0
  Done y o m = Does (Held rule_format y) (record_rule verdicts (length l) i e x) (contents rule_format l n) (contents rule_format y) (outcome o m)

  asked : refuses verdicts (length (contents rule_format l n)) ≡ r
  asked = rw (contents-length rule_sound h, q)

  pub rule_refused : r ≡ true → Done l (Err (Fault (error_at RegexError i))) n
  unfolding record_rule
  rule_refused t = does_bad (rw (asked, t)) h

  module _ (t : r ≡ false) (p : Result ℕ AreaFull) (y : List ℕ) (pushed : Pushed N.Rules rule_width most_rules 1 (rule_bytes x) l n p y) where
    grown : Grows rule_format (append rule_format (length l) (x ∷ [])) l n p y
    grown = held_push rule_sound h x pushed

    pub rule_next : {m : ℕ} → p ≡ Ok m → Done y (Ok e) m
    unfolding record_rule
    rule_next {m} z = does_go (rw (asked, t) (written_next rule_format N.Rules e _ y p grown.says z)) (grown.held m z)

    pub rule_full : {full : AreaFull} (m : ℕ) → p ≡ Err full → Done y (Err (Full full.0)) m
    unfolding record_rule
    rule_full {full} m z = rw (grown.names full z) (does_full (rw (asked, t) (written_full rule_format N.Rules e _ y p grown.says z)))
