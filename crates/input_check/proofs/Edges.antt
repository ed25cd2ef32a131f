-- The test by bytes is that of a character's edge: on well-formed text it holds at the edges and nowhere else. The start and the end of the text are
-- two of them. A text that fits has n bytes and is well formed.
use mathlib.Core.Path.{◌≡◌, refl, sym, ap, ◌∙◌}
use mathlib.Core.Bool.{true}
use mathlib.Core.List.{List, [], append-nil}
use Prim.Native.Nat.{ℕ}
use borrow.Author.Tests.{eqb-true}
use lib.Dec.{eqb}
use lib.ListN.{length}
use Rattle.std.proofs.lemmas.Bool.{and_parts}
use Rattle.characters.specs.Unicode.{encode_all, Encoded}
use Rattle.characters.specs.Utf8.{is_edge, utf8}
use Rattle.characters.proofs.Decoding.{utf8_judges}
use Rattle.characters.proofs.Edges.{edge_judges}
use Rattle.input_check.specs.InputCheck.{good_text, EdgeOf, JudgesEdges}

module _ (s : List ℕ) where
  edge_sound : Encoded s → (b : ℕ) → is_edge s b ≡ true → EdgeOf s b
  edge_sound text b t = record {
    text = text;
    edge = (edge_judges text.scalar_values b).sound (ap (λ (l : List ℕ). is_edge l b) text.bytes ∙ t);
  }

  pub edge_complete : (b : ℕ) → EdgeOf s b → is_edge s b ≡ true
  edge_complete b e = ap (λ (l : List ℕ). is_edge l b) (sym e.text.bytes) ∙ (edge_judges e.text.scalar_values b).complete e.edge

  pub edges_judged : utf8 s ≡ true → JudgesEdges s
  edges_judged formed = record { sound = edge_sound ((utf8_judges s).sound formed); complete = edge_complete }

  -- before the first character, and behind the last
  pub start_edge : Encoded s → EdgeOf s 0
  unfolding encode_all
  start_edge text = record { text = text; edge = record { before = []; behind = text.scalar_values; all = refl; bytes = refl } }

  pub last_edge : Encoded s → EdgeOf s (length s)
  last_edge text = record {
    text = text;
    edge = record {
      before = text.scalar_values;
      behind = [];
      all = sym (append-nil text.scalar_values);
      bytes = ap length (sym text.bytes);
    };
  }

-- ---- a text that fits

module _ (n : ℕ) (text : List ℕ) (fits : good_text n text ≡ true) where
  pub text_long : length text ≡ n
  unfolding good_text
  text_long = eqb-true (length text) n (and_parts (eqb (length text) n) (utf8 text) fits).0

  pub text_formed : utf8 text ≡ true
  unfolding good_text
  text_formed = (and_parts (eqb (length text) n) (utf8 text) fits).1
