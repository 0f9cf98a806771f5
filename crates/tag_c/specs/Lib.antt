pub mod TagC
