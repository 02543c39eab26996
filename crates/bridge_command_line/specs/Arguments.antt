-- The arguments that both commands have, as clap sees them.
use Rattle.std.specs.Prelude.{[], ◌∷◌, Some, codes}
use Rattle.clap.specs.Words.{App, Rule, Text, new_rule, with_rule}
use Rattle.clap.specs.declared.builder.value_parser.ValueParser.TheVariants as parsers
use Rattle.policy_rules.specs.declared.setting_rules.settings.TheConstants.{MOST_MOVES, MOST_SCORE}

-- an option with one value, and the value that it has if no word gives one
abbrev pub option_rule : Text → Text → Rule
option_rule name usual = record (new_rule name) {
  long = Some name;
  defaults = usual ∷ [];
  value_names = 1;
}

-- an option whose value is `true` or `false`
abbrev pub flag_rule : Text → Text → Rule
flag_rule name usual = record (option_rule name usual) { parser = Some parsers.Bool }

abbrev pub resign_rule : Rule
resign_rule = flag_rule (codes "Resign") (codes "false")

abbrev pub resign_moves_rule : Rule
resign_moves_rule =
    record (option_rule (codes "ResignMoves") (codes "3")) {
      parser = Some (parsers.Unsigned 1 MOST_MOVES);
    }

abbrev pub resign_score_rule : Rule
resign_score_rule =
    record (option_rule (codes "ResignScore") (codes "600")) {
      parser = Some (parsers.Unsigned 0 MOST_SCORE);
    }

abbrev pub show_ponder_rule : Rule
show_ponder_rule = flag_rule (codes "ShowPonder") (codes "true")

-- the log, and its name if no word gives one
abbrev pub log_file_rule : Text → Rule
log_file_rule usual = option_rule (codes "LogFile") usual

abbrev pub with_policy_rules : App → App
with_policy_rules a =
    with_rule (with_rule (with_rule (with_rule a resign_rule) resign_moves_rule) resign_score_rule)
    show_ponder_rule
