-- What a proof by computing unfolds: the definitions of this crate, markers for each of its files, and the markers of the crates below it.
-- tools/computing writes this file.
use Rattle.characters.specs.Computing.{computing as characters-computing}
use Rattle.text.specs.Computing.{computing as text-computing}
use Rattle.area.specs.Computing.{computing as area-computing}
use Rattle.fault.specs.Computing.{computing as fault-computing}
use Rattle.section.specs.Computing.{computing as section-computing}
use Rattle.names.specs.Computing.{computing as names-computing}
use Rattle.escape.specs.Computing.{computing as escape-computing}
use Rattle.rules.specs.Computing.{computing as rules-computing}
use Rattle.rules_section.specs.RulesSection.{with_rule, rewritten_rule, listed_rule, pattern, routines, rule_as, rule, line, next_rule, rules, rules_section}

unfoldable rules_section_file : Unit {0}
unfolding with_rule rewritten_rule listed_rule pattern routines rule_as rule line next_rule rules rules_section
rules_section_file = tt

unfoldable pub computing : Unit {0}
unfolding characters-computing text-computing area-computing fault-computing section-computing names-computing escape-computing rules-computing rules_section_file
computing = tt
