-- The command words and what they stand for.
use Rattle.std.specs.Prelude.{ℕ, List, [], ◌∷◌, codes, Bool, Option}
use Rattle.std.specs.List.{list_any}
use Rattle.std.specs.Str.{bytes_eq}
use Rattle.std.specs.Map.{lookup}
use Rattle.cecp_lines.specs.declared.words.BareWord.TheVariants as bare
use Rattle.cecp_lines.specs.declared.words.Command.{Command}
use Rattle.cecp_lines.specs.declared.words.Command.TheVariants.{Ignored, Bare, With}
use Rattle.cecp_lines.specs.declared.words.Verb.TheVariants as verbs

-- the words of lines that ask for nothing
abbrev pub ignored_words : List (List ℕ)
ignored_words =
    codes "xboard" ∷ codes "accepted" ∷ codes "rejected" ∷ codes "random" ∷ codes "computer"
    ∷ codes "name" ∷ codes "rating" ∷ codes "ics" ∷ codes "bk" ∷ []

abbrev pub is_ignored : List ℕ → Bool
is_ignored word = list_any (bytes_eq word) ignored_words

-- the same words, those that say all, and those with arguments
abbrev pub commands : List (List ℕ × Command)
commands =
    (codes "xboard", Ignored) ∷ (codes "accepted", Ignored) ∷ (codes "rejected", Ignored)
    ∷ (codes "random", Ignored) ∷ (codes "computer", Ignored) ∷ (codes "name", Ignored)
    ∷ (codes "rating", Ignored) ∷ (codes "ics", Ignored) ∷ (codes "bk", Ignored)
    ∷ (codes "new", Bare bare.New) ∷ (codes "quit", Bare bare.Quit)
    ∷ (codes "force", Bare bare.Force) ∷ (codes "go", Bare bare.Go)
    ∷ (codes "playother", Bare bare.PlayOther) ∷ (codes "?", Bare bare.MoveNow)
    ∷ (codes "draw", Bare bare.Draw) ∷ (codes "hint", Bare bare.Hint)
    ∷ (codes "undo", Bare bare.Undo) ∷ (codes "remove", Bare bare.Remove)
    ∷ (codes "hard", Bare bare.Hard) ∷ (codes "easy", Bare bare.Easy)
    ∷ (codes "post", Bare bare.Post) ∷ (codes "nopost", Bare bare.NoPost)
    ∷ (codes "analyze", Bare bare.Analyze) ∷ (codes "exit", Bare bare.Exit)
    ∷ (codes ".", Bare bare.Dot) ∷ (codes "result", Bare bare.Result)
    ∷ (codes "protover", With verbs.Protover) ∷ (codes "ping", With verbs.Ping)
    ∷ (codes "usermove", With verbs.UserMove) ∷ (codes "setboard", With verbs.SetBoard)
    ∷ (codes "level", With verbs.Level) ∷ (codes "st", With verbs.St) ∷ (codes "sd", With verbs.Sd)
    ∷ (codes "time", With verbs.Time) ∷ (codes "otim", With verbs.Otim)
    ∷ (codes "option", With verbs.SetOption) ∷ (codes "memory", With verbs.Memory)
    ∷ (codes "cores", With verbs.Cores) ∷ (codes "egtpath", With verbs.EgtPath) ∷ []

abbrev pub iface_command_of : List ℕ → Option Command
iface_command_of word = lookup (bytes_eq word) commands
