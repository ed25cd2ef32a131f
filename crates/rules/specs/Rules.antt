-- The list of states in front of a rule's pattern, and the rule's record (01, Rules). The states are those of the declarations.
use Rattle.std.specs.Prelude.{ℕ, ◌+◌, Bool, cond, not, List, [], ◌∷◌, eqb, leb, length, get_or}
use Rattle.text.specs.Scan.{find_byte, trim_end, trim_start}
use Rattle.area.specs.declared.AreaName.TheVariants as Areas
use Rattle.area.specs.declared.State.{State}
use Rattle.area.specs.declared.Rule.{Rule}
use Rattle.area.specs.Contents.{append, rule_format, entry_format}
use Rattle.fault.specs.Step.{Out, bad, written, loop}
use Rattle.fault.specs.Faults.{UnknownStartState, RegexError}
use Rattle.names.specs.Names.{find_state}

-- ---- the list of states between the `<` at i and the `>` at g

-- where the name from a on ends: at the next comma, or at the `>` (01, Rules)
unfoldable pub entry_end : List ℕ → ℕ → ℕ → ℕ
entry_end s g a = find_byte s a g 0x2c

-- the state of the name from a to e, trimmed; the number of states where there is none (01, Rules)
unfoldable pub entry_id : List ℕ → List State → ℕ → ℕ → ℕ
entry_id s xs a e = find_state s (trim_start s a e) (trim_end s (trim_start s a e) e) xs

module _ (s : List ℕ) (c3 : ℕ) (xs : List State) (i g : ℕ) where
  -- the next name, from a on: an unknown one is a fault at the line; any other is written, and on behind the comma or the `>` (01, Rules)
  unfoldable pub next_entry : ℕ → List ℕ → Out (List ℕ)
  next_entry a ids =
      cond (leb (length xs) (entry_id s xs a (entry_end s g a))) (bad UnknownStartState i ids)
      (written Areas.Entries (entry_end s g a + 1) (append entry_format c3 (entry_id s xs a (entry_end s g a) ∷ []) ids))

  -- each name in turn (01, Rules)
  unfoldable pub entries : List ℕ → Out (List ℕ)
  entries ids = loop (length s) (λ a. leb a g) next_entry (i + 1) ids

-- ---- the record

-- the engine refuses the rule behind the first k: the list has a byte other than 0 for it (01, Characters)
unfoldable pub refuses : List ℕ → ℕ → Bool
refuses verdicts k = not (eqb (get_or verdicts k 0) 0)

-- the verdict, a fault at the line i; then the record, and on at the line's end e (01, Rules)
unfoldable pub record_rule : List ℕ → ℕ → ℕ → ℕ → Rule → List Rule → Out (List Rule)
record_rule verdicts c2 i e x rs = cond (refuses verdicts (length rs)) (bad RegexError i rs) (written Areas.Rules e (append rule_format c2 (x ∷ []) rs))
