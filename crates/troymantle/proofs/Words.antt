-- What an exported call leaves: the call's equation, with the word in place of the answer.
use mathlib.Core.Path.{◌≡◌, ap, ◌∙◌}
use mathlib.Core.List.{List}
use Prim.Native.Nat.{ℕ}
use Rattle.parse.specs.declared.FileCounts.{FileCounts}
use Rattle.parse.specs.declared.ParseError.{ParseError}
use Rattle.parse.specs.Parse.{Left, left, parse_word}
use Rattle.parse.specs.Answers.{answered, counts_left}
use Rattle.link.specs.Link.{LinkAnswer, LinkLeft, link_left, link_word}
use Rattle.std.specs.Prelude.{Result}
use Rattle.lines.specs.declared.Place.{Place}
use Rattle.lines.specs.declared.PlaceError.{PlaceError}
use Rattle.lines.specs.Lines.{line_column, line_column_word, place_left, line_column_left, line_column_call}
use Rattle.run.specs.declared.Run.{Run}
use Rattle.run.specs.Run.{RunLeft, run_left, leaving}
use Rattle.troymantle.specs.Words.{left_in_words, in_words}
use Rattle.troymantle.specs.LinkWords.{link_in_words, in_link_words}

pub word_left : (a : Result FileCounts ParseError) (r : ℕ) → r ≡ parse_word (answered a) → (n : List ℕ) → n ≡ counts_left a
    → (x1 x2 x3 x4 x5 x6 : List ℕ) (y : Left)
    → left (answered a) (counts_left a) x1 x2 x3 x4 x5 x6 ≡ y → left_in_words r n x1 x2 x3 x4 x5 x6 ≡ in_words y
word_left a r w n c x1 x2 x3 x4 x5 x6 y e = (λ i. left_in_words (w i) (c i) x1 x2 x3 x4 x5 x6) ∙ ap in_words e

pub word_link_left : (a : LinkAnswer) (r : ℕ) → r ≡ link_word a → (x2 x7 x8 : List ℕ) (y : LinkLeft)
    → link_left a x2 x7 x8 ≡ y → link_in_words r x2 x7 x8 ≡ in_link_words y
word_link_left a r w x2 x7 x8 y e = ap (λ (k : ℕ). link_in_words k x2 x7 x8) w ∙ ap in_link_words e

-- of the start call and of the step call
pub word_run_left : {A : Type 0} (word_of : A → ℕ) (a : A) (w : ℕ) (r q : Run) (s : List ℕ) (y : RunLeft A)
    → w ≡ word_of a → q ≡ r → run_left a r s ≡ y → run_left w q s ≡ leaving (word_of y.answer) y.after
word_run_left {A} word_of a w r q s y h same e = (λ i. run_left (h i) (same i) s) ∙ ap (λ (x : RunLeft A). leaving (word_of x.answer) x.after) e

-- of the line_column call
pub word_place_left : (s : List ℕ) (b : ℕ) (was : List ℕ) (x : Result Place PlaceError) (w : ℕ) (l : List ℕ)
    → x ≡ line_column s b → w ≡ line_column_word x → l ≡ place_left x was → line_column_left w l ≡ line_column_call s b was
word_place_left s b was x w l is h e =
    (λ i. line_column_left (h i) (e i)) ∙ ap (λ (y : Result Place PlaceError). line_column_left (line_column_word y) (place_left y was)) is
