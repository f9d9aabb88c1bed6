-- Who isn't touched stays as it was. These are laws, to be cited.
use Rattle.std.proofs.Common.{◌≡◌, ℕ, Option, Some, None, refl, sym, subst, inl}
use Rattle.serve_clients.specs.Client.{ClientState}
use Rattle.serve_sources.specs.declared.password.Password.{Password}
use Rattle.slab.specs.Slab.{Slab, get}
use Rattle.station.specs.Kept.{AreTurned, InPlace, IsKept, IsLeft, IsTried, MayTurn}

pub kept_self : (password : Option Password) (now key : ℕ) (found : Option ClientState) → InPlace (IsKept password now key) found found
kept_self password now key None = refl
kept_self password now key (Some client) = inl (client.line, refl)

pub left_self : (found : Option ClientState) → InPlace IsLeft found found
left_self None = refl
left_self (Some client) = inl refl

pub tried_self : (password : Option Password) (now key : ℕ) (found : Option ClientState) → InPlace (IsTried password now key) found found
tried_self password now key None = refl
tried_self password now key (Some client) = inl refl

pub turned_self : (found : Option ClientState) → InPlace MayTurn found found
turned_self None = refl
turned_self (Some client) = (client.line, refl)

pub all_turned : (old new : Slab ClientState) → ((key : ℕ) → get new key ≡ get old key) → AreTurned old new
all_turned old new same key = subst (InPlace MayTurn (get old key)) (sym (same key)) (turned_self (get old key))
