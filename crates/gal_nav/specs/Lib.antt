pub mod GalForm
