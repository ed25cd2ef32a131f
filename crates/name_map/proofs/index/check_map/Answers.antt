-- `name_map::index::check_map` meets its contract: each test that fails makes it None, and a map that passes has its slots.
use Rattle.std.proofs.Common.{◌≡◌, ◌≤◌, sym, ◌∙◌, arith, length, ◌%◌, eqb-true}
use Rattle.std.proofs.lemmas.Bool.{eqb-false}
use Rattle.area.specs.Contents.{contents}
use Rattle.name_map.specs.Map.{map_width, most_entries, map_format, read_each, entry_count}
use Rattle.name_map.proofs.Maps.{chunks_read, map_ragged, map_large, map_outside, map_is, map_inside}
use Rattle.name_map.proofs.Probing.{checked_no, checked_repeated, checked_yes}
use Rattle.name_map.proofs.index.check_map.Goals.{After-as_chunks, Else-not-is_empty}
use Rattle.name_map.proofs.index.check_map.Goals as goal

-- the entries are those of the map's bytes
read : (c : After-as_chunks) → read_each c.as_chunks.result.0.now ≡ contents map_format c.args.entries.now (entry_count c.args.entries.now)
read c = chunks_read _ _ _ c.as_chunks.ensures.front c.as_chunks.ensures.front_len

-- no byte is left over
whole : (c : Else-not-is_empty) → length c.args.entries.now % map_width ≡ 0
whole c = sym c.as_chunks.ensures.back_len ∙ eqb-true _ _ (sym c.is_empty.ensures ∙ c.if-not-is_empty.false)

pub returns-then-not-is_empty : goal.returns-then-not-is_empty
returns-then-not-is_empty c =
    checked_no _ _ _ (map_ragged _ _ (λ e. eqb-false (length c.as_chunks.result.1.now) 0 (sym c.is_empty.ensures ∙ c.if-not-is_empty.true) (c.as_chunks.ensures.back_len ∙ e)))

pub returns-then-chunks-gt-MOST : goal.returns-then-chunks-gt-MOST
returns-then-chunks-gt-MOST c =
    checked_no _ _ _ (map_large _ _ (whole (goal.at.returns-then-chunks-gt-MOST c).Else-not-is_empty) (omega (arith, c.as_chunks.ensures.front_len, c.if-chunks-gt-MOST.true)))

pub returns-then-not-names_inside : goal.returns-then-not-names_inside
returns-then-not-names_inside c =
    let at = goal.at.returns-then-not-names_inside c in
    checked_no _ _ _ (map_outside _ _ (whole at.Else-not-is_empty) (omega (arith, c.as_chunks.ensures.front_len, c.if-chunks-gt-MOST.false)) _
    (read at.After-as_chunks) _ c.names_inside.ensures c.if-not-names_inside.true)

pub returns-then-index_entries : goal.returns-then-index_entries
returns-then-index_entries c =
    let at = goal.at.returns-then-index_entries c in
    let few : entry_count c.args.entries.now ≤ most_entries = omega (arith, c.as_chunks.ensures.front_len, c.if-chunks-gt-MOST.false) in
    checked_yes _ _ _ _ (map_is c.args.names.now c.args.entries.now (whole at.Else-not-is_empty) few _ (read at.After-as_chunks) _ c.names_inside.ensures)
    _ c.index_entries.ensures
    (λ q. map_inside _ _ (whole at.Else-not-is_empty) few _ (read at.After-as_chunks) _ c.names_inside.ensures _ c.if-not-names_inside.false q)
    c.if-index_entries.true

pub returns : goal.returns
returns c =
    let at = goal.at.returns c in
    let few : entry_count c.args.entries.now ≤ most_entries = omega (arith, c.as_chunks.ensures.front_len, c.if-chunks-gt-MOST.false) in
    checked_repeated _ _ _ _ _ c.index_entries.ensures
    (λ q. map_inside _ _ (whole at.Else-not-is_empty) few _ (read at.After-as_chunks) _ c.names_inside.ensures _ c.if-not-names_inside.false q)
    c.if-index_entries.false
