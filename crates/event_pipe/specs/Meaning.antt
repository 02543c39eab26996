-- The channel's view of its messages.
use Rattle.std.specs.Prelude.{ℕ, Bool}

-- Of each message: the role of its sender, 1 or 2; true if it is its sender's last; and true if it
-- may be sent.
pub record MessageMeaning (M : Type 0) : Type 0 where
  pub role : M → ℕ
  pub is_last : M → Bool
  pub is_good : M → Bool
