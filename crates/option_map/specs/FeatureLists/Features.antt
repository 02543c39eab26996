-- The list of features, a reply each.
use Rattle.std.specs.Prelude.{◌≡◌, ℕ, ◌+◌, ◌≤◌, List, [], ◌∷◌, ◌++◌, codes, length, map}
use Rattle.std.specs.Prelude.{filter, Bool, true, false, not, ◌||◌, if◌then◌else◌, nat_lt}
use Rattle.std.specs.List.{flat_map}
use Rattle.cecp_lines.specs.Replies.{Reply, Feature, reply_text}
use Rattle.option_map.specs.DeclaredOptions.Names.{holds}
use Rattle.option_map.specs.DeclaredOptions.Settings.{OptionSetting, setting_kind_text, text_size}
use Rattle.option_map.specs.DeclaredOptions.Shown.{takes_memory, takes_cores, takes_tables}
use Rattle.option_map.specs.declared.feature_lists.list.TheConstants.{MOST_NAME, COMMON_BYTES}
use Rattle.protocol_tokens.specs.Bytes.{quote}
use Rattle.line_io.specs.Lines.{line_feed}

-- a name of an engine that cannot be shown
abbrev pub is_unfit : List ℕ → Bool
is_unfit name = nat_lt (length name) 1 || nat_lt MOST_NAME (length name) || holds quote name

-- the name that is shown
abbrev pub shown_name : List ℕ → List ℕ
shown_name said = if is_unfit said then codes "UCI engine" else said

abbrev pub in_quotes : List ℕ → List ℕ
in_quotes text = quote ∷ text ++ quote ∷ []

abbrev pub bit : Bool → List ℕ
bit true = codes "1"
bit false = codes "0"

-- the features that are the same for all engines
abbrev pub fixed_features : List Reply
fixed_features =
    Feature (codes "ping") (codes "1") ∷ Feature (codes "setboard") (codes "1")
    ∷ Feature (codes "playother") (codes "1") ∷ Feature (codes "san") (codes "0")
    ∷ Feature (codes "usermove") (codes "1") ∷ Feature (codes "time") (codes "1")
    ∷ Feature (codes "draw") (codes "1") ∷ Feature (codes "sigint") (codes "0")
    ∷ Feature (codes "sigterm") (codes "0") ∷ Feature (codes "reuse") (codes "1")
    ∷ Feature (codes "analyze") (codes "1")
    ∷ Feature (codes "variants") (in_quotes (codes "normal")) ∷ Feature (codes "colors") (codes "0")
    ∷ []

-- the feature of endgame tables, if it is in the list
abbrev pub tables : Bool → List Reply
tables true = Feature (codes "egt") (in_quotes (codes "nalimov")) ∷ []
tables false = []

-- the features by the options that have commands of their own
abbrev pub by_options : List OptionSetting → List Reply
by_options os =
    Feature (codes "memory") (bit (takes_memory os)) ∷ Feature (codes "smp") (bit (takes_cores os))
    ∷ tables (takes_tables os)

abbrev pub option_feature : OptionSetting → Reply
option_feature o =
    Feature (codes "option") (in_quotes (o.name ++ setting_kind_text o.text_feature o.kind))

-- the options that are not hidden
abbrev pub shown_options : List OptionSetting → List OptionSetting
shown_options os = filter (λ o. not o.hidden) os

-- The whole list. The name is the one that the engine said, or nothing.
abbrev pub feature_list : List OptionSetting → List ℕ → List Reply
feature_list os said =
    Feature (codes "myname") (in_quotes (shown_name said)) ∷ fixed_features ++ by_options os
    ++ map option_feature (shown_options os) ++ Feature (codes "done") (codes "1") ∷ []

-- a reply as it is written, with its line feed
abbrev pub reply_line : Reply → List ℕ
reply_line reply = reply_text reply ++ line_feed ∷ []

abbrev pub reply_lines : List Reply → List ℕ
reply_lines replies = flat_map reply_line replies

-- how long the list may be
abbrev pub FeatureListIsShort : Type 0
FeatureListIsShort =
    (os : List OptionSetting) (said : List ℕ)
    → length (reply_lines (feature_list os said)) ≤ COMMON_BYTES + text_size os + length os

-- The name that is shown is shown again.
abbrev pub ShowsAgain : Type 0
ShowsAgain = (said : List ℕ) → shown_name (shown_name said) ≡ shown_name said
