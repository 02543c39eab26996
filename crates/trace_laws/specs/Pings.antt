-- Pings and their pongs.
use Rattle.std.specs.Prelude.{◌≡◌, ℕ, List, [], ◌∷◌, ◌++◌, true, false}
use Rattle.cecp_lines.specs.Messages as says
use Rattle.cecp_lines.specs.Replies.{Reply}
use Rattle.cecp_lines.specs.Replies as cecp
use Rattle.policy_rules.specs.declared.setting_rules.settings.Settings.{Settings}
use Rattle.search_epochs.specs.Tickets.{is_move}
use Rattle.desk_rules.specs.Steps.{Effect, Accepts}
use Rattle.adapter_core.specs.Trace.{Step, LawfulTrace, state, effect, owed_after}

-- the number of an accepted ping
abbrev pub ping_in : Effect → List ℕ
ping_in (Accepts (says.Ping n)) = n ∷ []
ping_in d = []

-- the pings that were accepted, the oldest first
abbrev pub accepted_pings : Settings → List Step → List ℕ
accepted_pings o [] = []
accepted_pings o (step ∷ trace) =
    accepted_pings o trace ++ ping_in (effect (state o trace) step.event)

-- the pongs of these lines
abbrev pub pongs_written : List Reply → List ℕ
pongs_written [] = []
pongs_written (cecp.Pong n ∷ rest) = n ∷ pongs_written rest
pongs_written (line ∷ rest) = pongs_written rest

-- the pongs that were written, the oldest first
abbrev pub written_pongs : List Step → List ℕ
written_pongs [] = []
written_pongs (step ∷ trace) = written_pongs trace ++ pongs_written step.replies

-- Each accepted ping has one pong, in order, or is held: the pings are the pongs, and after them
-- those that the desk holds.
abbrev pub PingsHavePongs : Settings → Type 0
PingsHavePongs o =
    (trace : List Step) → LawfulTrace o trace
    → accepted_pings o trace ≡ written_pongs trace ++ (state o trace).desk.pings

-- No pong is written in a step after whose event a Move is owed.
abbrev pub PongsWait : Settings → Type 0
PongsWait o =
    (step : Step) (trace : List Step) → LawfulTrace o (step ∷ trace)
    → is_move (owed_after (state o trace) step.event) ≡ true → pongs_written step.replies ≡ []

-- After a step that leaves the session open no ping is held, unless a Move is owed.
abbrev pub NoneIsHeld : Settings → Type 0
NoneIsHeld o =
    (step : Step) (trace : List Step) → LawfulTrace o (step ∷ trace)
    → (state o (step ∷ trace)).ends.closed ≡ false
    → is_move (owed_after (state o trace) step.event) ≡ false
    → (state o (step ∷ trace)).desk.pings ≡ []
