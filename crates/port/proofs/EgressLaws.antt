-- The laws of port::egress: which requests the written rows hold, and what becomes of them.
use mathlib.Core.Path.{◌≡◌, refl}
use mathlib.Core.Bool.{Bool, true, false}
use Rattle.rules.specs.declared.Handling.{Handling}
use Rattle.rules.specs.declared.Handling.TheVariants.{Direct, Redirect, Violation}
use Rattle.rules.specs.Decide.{handling}
use Rattle.port.specs.Held.{held}

-- with E the vector bit decides whether a request is held
pub bit_decides : {e x : Bool} (r b : Bool) → e ≡ true → x ≡ b → held (handling e r b) ≡ x
bit_decides true true on h = cc
bit_decides true false on h = cc
bit_decides false true on h = cc
bit_decides false false on h = cc

-- without E, R does
pub redirect_decides : {e x : Bool} (r b : Bool) → e ≡ false → x ≡ r → held (handling e r b) ≡ x
redirect_decides true b off h = cc
redirect_decides false b off h = cc

-- what is held is blocked without R
pub blocks : (e r b : Bool) {x : Bool} → held (handling e r b) ≡ x → x ≡ true → r ≡ false → Violation ≡ handling e r b
blocks true false true h on off = refl
blocks true false false h on off = cc
blocks false false b h on off = cc
blocks e true b h on off = cc

-- and redirected with it
pub redirects : (e r b : Bool) {x : Bool} → held (handling e r b) ≡ x → x ≡ true → r ≡ true → Redirect ≡ handling e r b
redirects true true true h on r = refl
redirects true true false h on r = cc
redirects false true b h on r = refl
redirects e false b h on r = cc

-- what is not held goes direct
pub passes : (h : Handling) {x : Bool} → held h ≡ x → x ≡ false → Direct ≡ h
passes Direct h off = refl
passes Redirect h off = cc
passes Violation h off = cc
