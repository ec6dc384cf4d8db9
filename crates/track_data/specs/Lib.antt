pub mod TrackTails
