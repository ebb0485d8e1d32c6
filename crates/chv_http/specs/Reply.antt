-- The statuses that this server sends.
use Rattle.std.specs.Prelude.{◌≡◌, ℕ, ◌⊎◌}

abbrev pub IsSent : ℕ → Type 0
IsSent status = (status ≡ 200) ⊎ ((status ≡ 204) ⊎ ((status ≡ 400) ⊎ ((status ≡ 404) ⊎ (status ≡ 500))))
