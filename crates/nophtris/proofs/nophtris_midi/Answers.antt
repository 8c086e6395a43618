-- The 16 bytes hold the keys that sound: with messages they become those of the new keys.
use Rattle.nophtris.proofs.Sounding.{gave_sent}
use Rattle.nophtris.proofs.nophtris_midi.Goals as goal

pub returns-in-Ok : goal.returns-in-Ok
returns-in-Ok c = gave_sent _ _ _ _ _ c.keys_in-keys.ensures c.put_sounding.ensures c.in-Ok.ensures
