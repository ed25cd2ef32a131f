-- A rule's line, read over the source, the states and the rules before it (01, Rules): the last blank, behind it the target and the name; and what
-- kind of pattern stands before the blank.
use Rattle.std.specs.Prelude.{Option, Some, None, Result, Ok, Err, ℕ, ◌+◌, ◌-◌, Bool, cond, not, ◌&&◌, ◌||◌, List, eqb, leb, ltb, length}
use Rattle.characters.specs.Whitespace.{byte}
use Rattle.text.specs.Scan.{find_byte, last_blank}
use Rattle.area.specs.declared.State.{State}
use Rattle.area.specs.declared.Rule.{Rule}
use Rattle.area.specs.Records.{nth_rule}
pub use Rattle.area.specs.Operation.{operation_number}
use Rattle.fault.specs.declared.Span.{Span}
use Rattle.fault.specs.Kinds.{error_at}
use Rattle.fault.specs.declared.kinds.LexError.{LexError}
use Rattle.fault.specs.declared.kinds.LexErrorKind.{LexErrorKind}
use Rattle.fault.specs.declared.kinds.LexErrorKind.TheVariants.{MissingSpace, InvalidName, UnknownStartState, InvalidStartState}
use Rattle.names.specs.Names.{find_state, find_rule}
use Rattle.escape.specs.Escape.{is_rewritten}
use Rattle.area.specs.declared.StartStateOperation.{StartStateOperation}
use Rattle.area.specs.declared.StartStateOperation.TheVariants.{ReplaceStack, Push, Pop}
use Rattle.rules.specs.declared.TargetState.{TargetState}
use Rattle.rules.specs.declared.Target.{Target}
use Rattle.rules.specs.declared.Label.{Label}
use Rattle.rules.specs.declared.Label.TheVariants.{Unnamed, Named, Misnamed}
use Rattle.rules.specs.declared.Name.{Name}
use Rattle.rules.specs.declared.Head.{Head}
use Rattle.rules.specs.declared.Heading.{Heading}
use Rattle.rules.specs.declared.Heading.TheVariants.{Repeated, Fresh}
use Rattle.rules.specs.declared.Body.{Body}
use Rattle.rules.specs.declared.Body.TheVariants.{Unclosed, Listed, Rewritten, Plain}

-- a fault of a kind at a place
abbrev pub faulty : {A : Type 0} → LexErrorKind → ℕ → Result A LexError
faulty kind at = Err (error_at kind at)

-- ---- the target, behind the blank at r of a line that is trimmed at t

-- a `<` right behind the blank begins a target (01, Rules)
unfoldable pub has_target : List ℕ → ℕ → Bool
has_target s r = eqb (byte s (r + 1)) 0x3c

-- where the target's `>` stands, the first there is; t where there is none (01, Rules)
unfoldable pub target_end : List ℕ → ℕ → ℕ → ℕ
target_end s r t = find_byte s (r + 1) t 0x3e

-- push for `+`, pop for `-`, else replace (01, Areas, 2)
unfoldable pub operation_of : ℕ → StartStateOperation
operation_of x = cond (eqb x 0x2b) Push (cond (eqb x 0x2d) Pop ReplaceStack)

-- how many bytes stand for it: `+` and `-` are one, to replace is not marked (01, Rules)
abbrev pub mark_length : StartStateOperation → ℕ
mark_length ReplaceStack = 0
mark_length Push = 1
mark_length Pop = 1

-- the target's operation: the byte behind its `<` tells it (01, Rules)
unfoldable pub target_operation : List ℕ → ℕ → StartStateOperation
target_operation s r = operation_of (byte s (r + 2))

-- where the target's name starts: behind the `<`, or behind the `+` or `-` that follows it (01, Rules)
unfoldable pub target_name : List ℕ → ℕ → ℕ
target_name s r = r + 2 + mark_length (target_operation s r)

-- the state of that name, which ends at the `>` and is not trimmed; the number of states where there is none (01, Rules)
unfoldable pub target_id : List ℕ → ℕ → ℕ → List State → ℕ
target_id s r t xs = find_state s (target_name s r) (target_end s r t) xs

-- what a target says, if there is one, and the place behind it
abbrev pub target : Option TargetState → ℕ → Target
target x p = record { state = x; end = p }

-- no target; one that is not closed, a fault at the blank; one of an unknown state, a fault behind the blank; or one that ends behind its `>` (01, Rules)
unfoldable pub target_of : List ℕ → ℕ → ℕ → List State → Result Target LexError
target_of s r t xs =
    cond (not (has_target s r)) (Ok (target None (r + 1)))
    (cond (leb t (target_end s r t)) (faulty InvalidStartState r)
    (cond (leb (length xs) (target_id s r t xs)) (faulty UnknownStartState (r + 1))
    (Ok (target (Some (record { id = target_id s r t xs; operation = target_operation s r })) (target_end s r t + 1)))))

-- ---- the name

-- the bytes from a to before e
abbrev pub span : ℕ → ℕ → Span
span a e = record { start = a; end = e }

-- how many bytes a span has
abbrev pub size : Span → ℕ
size q = q.end - q.start

-- both bytes are the same quote, `"` or `'` (01, Rules)
unfoldable pub equal_quotes : ℕ → ℕ → Bool
equal_quotes x y = (eqb x 0x22 && eqb y 0x22) || (eqb x 0x27 && eqb y 0x27)

-- n bytes, of which x is the first and y the last, give no name: a semicolon, or a pair of quotes with nothing in it (01, Rules)
unfoldable pub is_no_name : ℕ → ℕ → ℕ → Bool
is_no_name n x y = (eqb n 1 && eqb x 0x3b) || (eqb n 2 && equal_quotes x y)

-- they give a name: equal quotes, and more than 2 bytes (01, Rules)
unfoldable pub is_name : ℕ → ℕ → ℕ → Bool
is_name n x y = ltb 2 n && equal_quotes x y

-- which of the three it is: no name, a name in quotes, or a bad one (01, Rules)
unfoldable pub label_by : ℕ → ℕ → ℕ → Label
label_by n x y = cond (is_no_name n x y) Unnamed (cond (is_name n x y) Named Misnamed)

-- what stands at q is told by its length, its first byte and its last (01, Rules)
unfoldable pub label_of : List ℕ → Span → Label
label_of s q = label_by (size q) (byte s q.start) (byte s (q.end - 1))

-- the rule that has the name at q, whatever its quotes; the number of rules where there is none (01, Rules)
unfoldable pub rule_named : List ℕ → Span → List Rule → ℕ
rule_named s q rs = find_rule s (q.start + 1) (q.end - 1) rs

-- ---- the heading

-- the span of a rule without a name is empty and stands behind the blank at r (01, Rules)
abbrev pub no_name_span : ℕ → Span
no_name_span r = span (r + 1) (r + 1)

-- the span of a rule whose name stands at q with its quotes: from the blank at r plus 2 to the blank plus the length of q, also after a target
-- (01, Rules)
abbrev pub name_span : ℕ → Span → Span
name_span r q = span (r + 2) (r + size q)

-- a rule without a name (01, Rules)
abbrev pub head_unnamed : ℕ → Option TargetState → Head
head_unnamed r x = record { name = None; name_span = no_name_span r; target_state = x }

-- a rule with the quoted name at q: the name's own place is without the quotes (01, Rules)
abbrev pub head_named : ℕ → Span → Option TargetState → Head
head_named r q x = record { name = Some (record { from = q.start + 1; length = size q - 2 }); name_span = name_span r q; target_state = x }

-- a name that the rule x has already: its span, and that of this rule (01, Rules)
abbrev pub repeats : Rule → Head → Heading
repeats x h = Repeated (span x.span_start x.span_end) h.name_span

-- the quoted name at q behind the blank and the target: one that a rule has already, or a new one (01, Rules)
unfoldable pub heading_named : List ℕ → ℕ → Option TargetState → Span → List Rule → Heading
heading_named s r x q rs =
    cond (ltb (rule_named s q rs) (length rs)) (repeats (nth_rule rs (rule_named s q rs)) (head_named r q x))
    (Fresh r (head_named r q x))

-- behind the blank and the target stands q: no name; a bad one, a fault behind the blank; or one in quotes (01, Rules)
unfoldable pub heading_behind : List ℕ → ℕ → Option TargetState → Span → List Rule → Result Heading LexError
heading_behind s r x q rs =
    elim (label_of s q) [
      | Unnamed ↦ Ok (Fresh r (head_unnamed r x))
      | Misnamed ↦ faulty InvalidName (r + 1)
      | Named ↦ Ok (heading_named s r x q rs)
    ]

-- the line from i, trimmed at t: no blank, a fault where the line starts; a wrong target; or what stands behind the last blank and the target (01, Rules)
unfoldable pub heading_of : List ℕ → ℕ → ℕ → List State → List Rule → Result Heading LexError
heading_of s i t xs rs =
    elim (last_blank s i t) [
      | None ↦ faulty MissingSpace i
      | Some r ↦
          elim (target_of s r t xs) [
            | Err error ↦ Err error
            | Ok x ↦ heading_behind s r x.state (span x.end t) rs
          ]
    ]

-- ---- the fields of a rule that its head tells (01, Areas, 2)

-- 1 where the rule has a name
abbrev pub named_field : Option Name → ℕ
named_field None = 0
named_field (Some x) = 1

-- where the name stands: without a name both fields are 0
abbrev pub name_fields : Option Name → Name
name_fields None = record { from = 0; length = 0 }
name_fields (Some x) = x

-- what is done with the stack of states: 0 without a target
abbrev pub operation_field : Option TargetState → ℕ
operation_field None = 0
operation_field (Some x) = operation_number x.operation

-- with which state: 0 without a target
abbrev pub target_field : Option TargetState → ℕ
target_field None = 0
target_field (Some x) = x.id

-- ---- the pattern from i to c

-- a leading `<` begins a list of states; an empty pattern has none (01, Rules)
unfoldable pub has_list : List ℕ → ℕ → ℕ → Bool
has_list s i c = ltb i c && eqb (byte s i) 0x3c

-- where the list's `>` stands, the first there is; c where there is none (01, Rules)
unfoldable pub list_end : List ℕ → ℕ → ℕ → ℕ
list_end s i c = find_byte s i c 0x3e

-- the kind of the pattern: a list of states that is not closed, one that is, escapes to rewrite, or text as it stands (01, Rules)
unfoldable pub body_of : List ℕ → ℕ → ℕ → Body
body_of s i c =
    cond (has_list s i c) (cond (leb c (list_end s i c)) Unclosed (Listed (list_end s i c)))
    (cond (is_rewritten s i c) Rewritten Plain)
